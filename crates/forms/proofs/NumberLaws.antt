-- A number's digits are read as the number, and what is read as a number is the number's digits.
use mathlib.Core.Path.{◌≡◌, refl, sym, ap, ◌∙◌}
use Prim.Native.Nat.{ℕ, zero, suc, ◌+◌, ◌*◌, ◌/◌, ◌%◌, ◌^◌, ◌≤◌, ◌<◌}
use native.Mathlib.Nat.{pow-succ', add-zero, zero-add, suc-add, add-suc, mod-eq_of_lt}
use native.Mathlib.Omega.{arith}
use mathlib.Core.List.{List, [], ◌∷◌, ◌++◌, append_assoc}
use mathlib.Core.Bool.{true}
use borrow.Author.Tests.{lt-ltb, le-ltb, le-leb, lt-leb, leb-true, eq-eqb, ne_eqb}
use Rattle.forms.specs.Digits.{digit_byte, digit_of, digits, hex_of, decimal_count, decimal_of}
use Rattle.forms.specs.Fronts.{off, number, hex_after, hex_front, decimal_after, decimal_front}
use Rattle.forms.specs.Inner.Cuts.{ends_number}
use Rattle.forms.proofs.Cases.{below_or, equal_or}
use Rattle.forms.proofs.DigitLaws.{digit_number, digit_of_byte, byte_of_digit, digits_more, count_one, count_next, tenth_below, zero_decimal}
use Rattle.forms.proofs.DigitLaws.{decimal_one, decimal_more, byte_number}

pub off_number : {A : Type 0} {x : ℕ} {t : List ℕ} → off ≡ number x t → A
off_number same = let none : ◌≡◌ {A = ℕ} 0 1 = cc in absurd (omega arith)

value_same : {x y : ℕ} {s t : List ℕ} → number x s ≡ number y t → x ≡ y
value_same same = cc

pub rest_same : {x y : ℕ} {s t : List ℕ} → number x s ≡ number y t → s ≡ t
rest_same same = cc

-- ---- one byte of a number

module _ (b : ℕ) (t : List ℕ) where
  pub hex_digit : (k v : ℕ) → digit_of b < 16 → hex_after (suc k) v (b ∷ t) ≡ hex_after k (v * 16 + digit_of b) t
  unfolding hex_after
  hex_digit k v small = rw (lt-ltb (digit_of b) 16 small)

  pub hex_other : (k v : ℕ) → 16 ≤ digit_of b → hex_after (suc k) v (b ∷ t) ≡ off
  unfolding hex_after
  hex_other k v large = rw (le-ltb (digit_of b) 16 large)

  pub decimal_digit : (limit v : ℕ) → digit_of b < 10 → v * 10 + digit_of b ≤ limit → decimal_after limit v (b ∷ t) ≡ decimal_after limit (v * 10 + digit_of b) t
  unfolding decimal_after
  decimal_digit limit v small within = rw (lt-ltb (digit_of b) 10 small, le-leb (v * 10 + digit_of b) limit within)

  pub decimal_past : (limit v : ℕ) → digit_of b < 10 → limit < v * 10 + digit_of b → decimal_after limit v (b ∷ t) ≡ off
  unfolding decimal_after
  decimal_past limit v small past = rw (lt-ltb (digit_of b) 10 small, lt-leb (v * 10 + digit_of b) limit past)

  pub decimal_ends : (limit v : ℕ) → 10 ≤ digit_of b → decimal_after limit v (b ∷ t) ≡ number v (b ∷ t)
  unfolding decimal_after
  decimal_ends limit v large = rw (le-ltb (digit_of b) 10 large)

  pub decimal_first : (limit : ℕ) → (b ≡ 48 → ⊥) → digit_of b < 10 → digit_of b ≤ limit → decimal_front limit (b ∷ t) ≡ decimal_after limit (digit_of b) t
  unfolding decimal_front
  decimal_first limit some small within = rw (ne_eqb b 48 some, lt-ltb (digit_of b) 10 small, le-leb (digit_of b) limit within)

  pub decimal_large : (limit : ℕ) → (b ≡ 48 → ⊥) → digit_of b < 10 → limit < digit_of b → decimal_front limit (b ∷ t) ≡ off
  unfolding decimal_front
  decimal_large limit some small past = rw (ne_eqb b 48 some, lt-ltb (digit_of b) 10 small, lt-leb (digit_of b) limit past)

  pub decimal_nought : (limit : ℕ) → b ≡ 48 → decimal_front limit (b ∷ t) ≡ number 0 t
  unfolding decimal_front
  decimal_nought limit is = rw (eq-eqb b 48 is)

  pub decimal_none : (limit : ℕ) → 10 ≤ digit_of b → decimal_front limit (b ∷ t) ≡ off
  unfolding decimal_front
  decimal_none limit large =
      let other : b ≡ 48 → ⊥ = λ same. omega (arith, digit_number b (omega arith) (omega arith)) in
      rw (ne_eqb b 48 other, le-ltb (digit_of b) 10 large)

-- a digit other than 0
pub digit_some : (b : ℕ) → (b ≡ 48 → ⊥) → digit_of b < 10 → 0 < digit_of b
unfolding digit_byte
digit_some b other small =
    below_or (digit_of b) 1
    (λ none. let zero : digit_of b ≡ 0 = omega arith in absurd (other (sym (byte_of_digit b (omega arith)) ∙ ap digit_byte zero)))
    (λ some. some)

-- ---- hexadecimal digits

-- digits read, with so many left to read, have made their number
hex_so_far : (j k x : ℕ) (t : List ℕ) → x < 16 ^ j → hex_after (j + k) 0 (digits 16 j x ++ t) ≡ hex_after k x t
unfolding digits
hex_so_far zero k x t below = let none : x ≡ 0 = omega arith in rw (none, zero-add k)
hex_so_far (suc j) k x t below =
    let power : 16 ^ suc j ≡ 16 * 16 ^ j = pow-succ' 16 j in
    let last : x % 16 < 16 = omega arith in
    let digit : digit_of (digit_byte (x % 16)) ≡ x % 16 = digit_of_byte (x % 16) last in
    let whole : x / 16 * 16 + x % 16 ≡ x = omega arith in
    rw (append_assoc (digits 16 j (x / 16)) (digit_byte (x % 16) ∷ []) t, suc-add j k, ← add-suc j k)
    (hex_so_far j (suc k) (x / 16) (digit_byte (x % 16) ∷ t) (omega arith)
    ∙ hex_digit (digit_byte (x % 16)) t k (x / 16) (omega arith)
    ∙ ap (λ (n : ℕ). hex_after k n t) (ap (λ (d : ℕ). x / 16 * 16 + d) digit ∙ whole))

pub hex_spelled : (x : ℕ) (t : List ℕ) → x < 2 ^ 64 → hex_front (hex_of x ++ t) ≡ number x t
unfolding hex_after
hex_spelled x t below = hex_so_far 16 0 x t below

-- what is read of a text, whose digits before make v, are the digits of the number
hex_kept : (all t : List ℕ) (j k v x : ℕ) (rest : List ℕ) → all ≡ digits 16 j v ++ t → v < 16 ^ j → hex_after k v t ≡ number x rest
    → (all ≡ digits 16 (j + k) x ++ rest) × (x < 16 ^ (j + k))
unfolding hex_after
hex_kept all t j zero v x rest is below same =
    rw (add-zero j, ← value_same same, ← rest_same same) (is, below)
hex_kept all [] j (suc k) v x rest is below same = off_number same
hex_kept all (b ∷ t) j (suc k) v x rest is below same =
    below_or (digit_of b) 16
    (λ small.
    let power : 16 ^ suc j ≡ 16 * 16 ^ j = pow-succ' 16 j in
    let next : digits 16 j v ++ (b ∷ t) ≡ digits 16 (suc j) (v * 16 + digit_of b) ++ t =
    rw (digits_more 16 j v (digit_of b) small, byte_of_digit b small, append_assoc (digits 16 j v) (b ∷ []) t) in
    rw (add-suc j k, ← suc-add j k)
    (hex_kept all t (suc j) k (v * 16 + digit_of b) x rest (is ∙ next) (omega arith) (sym (hex_digit b t k v small) ∙ same)))
    (λ large. off_number (sym (hex_other b t k v large) ∙ same))

pub hex_sound : (t : List ℕ) (x : ℕ) (rest : List ℕ) → hex_front t ≡ number x rest → (t ≡ hex_of x ++ rest) × (x < 2 ^ 64)
unfolding digits
hex_sound t x rest same = hex_kept t t 0 16 0 x rest refl (omega arith) same

-- ---- decimal numbers

decimal_one_read : (limit k x : ℕ) (t : List ℕ) → 0 < x → x < 10 → x ≤ limit → decimal_front limit (digits 10 (decimal_count k x) x ++ t) ≡ decimal_after limit x t
unfolding digits
decimal_one_read limit k x t some small within =
    let digit : digit_of (digit_byte x) ≡ x = digit_of_byte x (omega arith) in
    let other : digit_byte x ≡ 48 → ⊥ = λ same. omega (arith, byte_number x small) in
    rw (count_one k x small, mod-eq_of_lt small)
    (decimal_first (digit_byte x) t limit other (omega arith) (omega arith) ∙ ap (λ (n : ℕ). decimal_after limit n t) digit)

-- digits read have made their number, which the limit lets pass
decimal_so_far : (limit k x : ℕ) (t : List ℕ) → 0 < x → x < 10 ^ suc k → x ≤ limit
    → decimal_front limit (digits 10 (decimal_count k x) x ++ t) ≡ decimal_after limit x t
unfolding digits
decimal_so_far limit zero x t some below within = decimal_one_read limit zero x t some below within
decimal_so_far limit (suc k) x t some below within =
    below_or x 10
    (λ small. decimal_one_read limit (suc k) x t some small within)
    (λ large.
    let digit : digit_of (digit_byte (x % 10)) ≡ x % 10 = digit_of_byte (x % 10) (omega arith) in
    let whole : x / 10 * 10 + x % 10 ≡ x = omega arith in
    rw (count_next k x large, append_assoc (digits 10 (decimal_count k (x / 10)) (x / 10)) (digit_byte (x % 10) ∷ []) t)
    (decimal_so_far limit k (x / 10) (digit_byte (x % 10) ∷ t) (omega arith) (tenth_below (suc k) x below) (omega arith)
    ∙ decimal_digit (digit_byte (x % 10)) t limit (x / 10) (omega arith) (omega arith)
    ∙ ap (λ (n : ℕ). decimal_after limit n t) (ap (λ (d : ℕ). x / 10 * 10 + d) digit ∙ whole)))

decimal_stops : (limit x : ℕ) (t : List ℕ) → ends_number t ≡ true → decimal_after limit x t ≡ number x t
unfolding ends_number decimal_after
decimal_stops limit x [] ends = refl
decimal_stops limit x (b ∷ t) ends = decimal_ends b t limit x (leb-true 10 (digit_of b) ends)

pub decimal_spelled : (limit x : ℕ) (t : List ℕ) → x ≤ limit → x < 10 ^ 20 → ends_number t ≡ true → decimal_front limit (decimal_of x ++ t) ≡ number x t
decimal_spelled limit x t within below ends =
    below_or x 1
    (λ none. let is : x ≡ 0 = omega arith in rw (is, zero_decimal) (decimal_nought 48 t limit refl))
    (λ some. decimal_so_far limit 19 x t some below within ∙ decimal_stops limit x t ends)

-- what is read of a text, whose digits before make v, are the digits of the number
decimal_kept :
    (limit : ℕ) (all t : List ℕ) (v x : ℕ) (rest : List ℕ) → limit < 10 ^ 19 → 0 < v → v ≤ limit
    → all ≡ decimal_of v ++ t → decimal_after limit v t ≡ number x rest
    → (all ≡ decimal_of x ++ rest) × (x ≤ limit)
unfolding decimal_after
decimal_kept limit all [] v x rest small some within is same = rw (← value_same same, ← rest_same same) (is, within)
decimal_kept limit all (b ∷ t) v x rest small some within is same =
    below_or (digit_of b) 10
    (λ digit. below_or limit (v * 10 + digit_of b)
    (λ past. off_number (sym (decimal_past b t limit v digit past) ∙ same))
    (λ room.
    let next : decimal_of v ++ (b ∷ t) ≡ decimal_of (v * 10 + digit_of b) ++ t =
    rw (decimal_more v (digit_of b) some (omega arith) digit, byte_of_digit b (omega arith), append_assoc (decimal_of v) (b ∷ []) t) in
    decimal_kept limit all t (v * 10 + digit_of b) x rest small (omega arith) room (is ∙ next) (sym (decimal_digit b t limit v digit room) ∙ same)))
    (λ large.
    let stops : number v (b ∷ t) ≡ number x rest = sym (decimal_ends b t limit v large) ∙ same in
    rw (← value_same stops, ← rest_same stops) (is, within))

pub decimal_sound :
    (limit : ℕ) (t : List ℕ) (x : ℕ) (rest : List ℕ) → limit < 10 ^ 19 → decimal_front limit t ≡ number x rest
    → (t ≡ decimal_of x ++ rest) × (x ≤ limit)
unfolding decimal_front
decimal_sound limit [] x rest small same = off_number same
decimal_sound limit (b ∷ t) x rest small same =
    equal_or b 48
    (λ is.
    let read : number 0 t ≡ number x rest = sym (decimal_nought b t limit is) ∙ same in
    rw (← value_same read, ← rest_same read, is, zero_decimal) (refl, omega arith))
    (λ other. below_or (digit_of b) 10
    (λ digit. below_or limit (digit_of b)
    (λ past. off_number (sym (decimal_large b t limit other digit past) ∙ same))
    (λ room.
    let byte : digit_byte (digit_of b) ≡ b = byte_of_digit b (omega arith) in
    let first : b ∷ t ≡ decimal_of (digit_of b) ++ t = rw (decimal_one (digit_of b) digit, byte) in
    decimal_kept limit (b ∷ t) t (digit_of b) x rest small (digit_some b other digit) room first (sym (decimal_first b t limit other digit room) ∙ same)))
    (λ large. off_number (sym (decimal_none b t limit large) ∙ same)))
