-- Where a test that holds somewhere holds: a number below n that passes it, and the place of a number in a list.
use mathlib.Core.Path.{◌≡◌, refl, sym, ap, ◌∙◌}
use mathlib.Core.Bool.{Bool, true, false, true≢false, ◌||◌, or-true}
use mathlib.Core.List.{List, [], ◌∷◌}
use mathlib.Core.Logic.{⊎_elim}
use Prim.Native.Nat.{ℕ, zero, suc, ◌<◌}
use native.Mathlib.Nat.{eq-or-lt_of_le, le_of_suc-le-suc, not-suc-le-zero}
use native.Mathlib.Omega.{arith}
use borrow.Author.Tests.{eqb-true, eq-eqb}
use lib.Dec.{eqb}
use lib.ListN.{length, get_or}
use Rattle.lists.specs.Ranges.{any_below, among}

-- ---- a number below n that passes a test

pub record Passing (n : ℕ) (test : ℕ → Bool) : Type 0 where
  pub at : ℕ
  pub below : at < n
  pub passes : test at ≡ true

pub passing : (n : ℕ) (test : ℕ → Bool) → any_below n test ≡ true → Passing n test
unfolding any_below
passing zero test e = absurd (true≢false (sym e))
passing (suc n) test e = by (any_below n test) refl (passing n test)
  where
    by : (b : Bool) → any_below n test ≡ b → (any_below n test ≡ true → Passing n test) → Passing (suc n) test
    by true found earlier = let p = earlier found in record { at = p.at; below = omega (arith, p.below); passes = p.passes }
    by false none earlier = record { at = n; below = omega arith; passes = sym (ap (λ b. b || test n) none) ∙ e }

pub any_at : (n : ℕ) (test : ℕ → Bool) (k : ℕ) → k < n → test k ≡ true → any_below n test ≡ true
unfolding any_below
any_at zero test k h e = absurd (not-suc-le-zero h)
any_at (suc n) test k h e =
    ⊎_elim
    (λ (same : k ≡ n). rw (sym (ap test same) ∙ e) (or-true (any_below n test)))
    (λ (below : k < n). rw (any_at n test k below e) refl)
    (eq-or-lt_of_le (le_of_suc-le-suc h))

-- ---- a number that is in a list

pub record Place (x : ℕ) (l : List ℕ) : Type 0 where
  pub at : ℕ
  pub below : at < length l
  pub is : get_or l at 0 ≡ x

pub place : (x : ℕ) (l : List ℕ) → among x l ≡ true → Place x l
unfolding among
place x [] e = absurd (true≢false (sym e))
place x (y ∷ l) e = by (eqb x y) refl (place x l)
  where
    by : (b : Bool) → eqb x y ≡ b → (among x l ≡ true → Place x l) → Place x (y ∷ l)
    by true same later = record { at = 0; below = omega arith; is = sym (eqb-true x y same) }
    by false other later =
        let p = later (sym (ap (λ b. b || among x l) other) ∙ e) in
        record { at = suc p.at; below = omega (arith, p.below); is = p.is }

pub among_at : (l : List ℕ) (q : ℕ) → q < length l → among (get_or l q 0) l ≡ true
unfolding among
among_at [] q h = absurd (not-suc-le-zero h)
among_at (y ∷ l) zero h = rw (eq-eqb y y refl) refl
among_at (y ∷ l) (suc q) h = rw (among_at l q (le_of_suc-le-suc h)) (or-true (eqb (get_or l q 0) y))
