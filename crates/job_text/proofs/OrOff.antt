-- What a line or its number comes to, once it is known which it is.
use Rattle.std.proofs.Common.{◌≡◌, ℕ, Option, Some, None, Result, Ok, Err, sym, ◌∙◌, arith}
use Rattle.std.specs.Option.{ok_or}
use Rattle.std.specs.Result.{IsErrAnd}

never_ok : {A B E : Type 0} {x : A} {e : E} → Ok x ≡ Err e → B
never_ok same = let none : ◌≡◌ {A = ℕ} 0 1 = cc in absurd (omega arith)

ok_same : {A E : Type 0} {x y : A} → ◌≡◌ {A = Result A E} (Ok x) (Ok y) → x ≡ y
ok_same same = cc

err_same : {A E : Type 0} {x y : E} → ◌≡◌ {A = Result A E} (Err x) (Err y) → x ≡ y
err_same same = cc

pub read_ok : {A E : Type 0} (o : Option A) {r : Result A E} (e : E) {x : A} → r ≡ ok_or o e → r ≡ Ok x → o ≡ Some x
read_ok None e value is = never_ok (sym is ∙ value)
read_ok (Some y) e value is = cc

pub read_none : {A E : Type 0} (o : Option A) {r : Result A E} (e : E) {f : E} → r ≡ ok_or o e → r ≡ Err f → o ≡ None
read_none None e value is = cc
read_none (Some y) e value is = never_ok (sym value ∙ is)

pub read_off : {A E : Type 0} (o : Option A) {r : Result A E} {e f : E} → r ≡ ok_or o e → r ≡ Err f → f ≡ e
read_off None value is = err_same (sym is ∙ value)
read_off (Some y) value is = never_ok (sym value ∙ is)

pub passed_on : {A E : Type 0} (r : Result A E) {e : E} → IsErrAnd r (λ f. f ≡ e) → r ≡ Err e
passed_on (Ok x) is = absurd is
passed_on (Err f) is = cc
