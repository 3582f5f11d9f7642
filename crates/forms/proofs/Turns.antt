-- One turn of each loop: what is left after it gives what was left before it.
use mathlib.Core.Path.{◌≡◌, ◌∙◌, refl, sym}
use Prim.Native.Nat.{ℕ, zero, suc, ◌+◌, ◌-◌, ◌*◌, ◌/◌, ◌%◌, ◌^◌, ◌≤◌, ◌<◌}
use native.Mathlib.Nat.{one-le-pow, pow-succ', mul-le-mul_right, mul-le-mul_left}
use native.Mathlib.Numerals.{add-one}
use native.Mathlib.Omega.{arith}
use mathlib.Core.List.{List, [], ◌∷◌, ◌++◌}
use Rattle.std.proofs.Common.{Some, None}
use borrow.Author.Tests.{le-leb, lt-leb, le-ltb, lt-ltb}
use lib.ListN.{length, get_or, drop, set}
use lib.Seq.{sets, drop-cons, drop-length}
use Rattle.forms.specs.Digits.{digit_byte, digit_value, digit_of, decimal_value, digits}
use Rattle.forms.specs.Fronts.{off, number, hex_after, decimal_after, decimal_front}
use Rattle.forms.proofs.Stores.{sets_last}
use Rattle.forms.proofs.Cases.{below_or}
use Rattle.forms.proofs.DigitLaws.{digit_number, digit_letter, digits_length}
use Rattle.forms.proofs.NumberLaws.{hex_digit, hex_other, decimal_digit, decimal_past, decimal_ends, decimal_first, decimal_large, decimal_none, decimal_nought}

-- ---- hexadecimal digits

never_some : {A : Type 0} {d : ℕ} → Some d ≡ None → A
never_some same = let none : ◌≡◌ {A = ℕ} 0 1 = cc in absurd (omega arith)

some_same : {x y : ℕ} → Some x ≡ Some y → x ≡ y
some_same same = cc

pub value_digit : (b d : ℕ) → digit_value b ≡ Some d → digit_of b ≡ d
unfolding digit_of
value_digit b d is = rw is

pub value_none : (b : ℕ) → digit_value b ≡ None → digit_of b ≡ 16
unfolding digit_of
value_none b is = rw is

pub value_small : (b d : ℕ) → digit_value b ≡ Some d → d < 16
unfolding digit_value
value_small b d is =
    below_or b 48 (λ low. never_some (sym (simp (lt-leb 48 b low, lt-leb 97 b (omega arith)) at is))) λ least.
    below_or b 58
    (λ number. omega (arith, value_digit b d is, digit_number b least (omega arith)))
    λ more.
    below_or b 97
    (λ between. never_some (sym (simp (le-leb 48 b least, lt-leb b 57 (omega arith), lt-leb 97 b between) at is)))
    λ letter.
    below_or b 103
    (λ within. omega (arith, value_digit b d is, digit_letter b letter (omega arith)))
    (λ above.
    never_some (sym (simp (le-leb 48 b least, lt-leb b 57 (omega arith), le-leb 97 b letter, lt-leb b 102 (omega arith)) at is)))

-- a text with fewer bytes has no such number
pub hex_short : (k v : ℕ) (t : List ℕ) → length t < k → hex_after k v t ≡ off
unfolding hex_after
hex_short zero v t short = absurd (omega arith)
hex_short (suc k) v [] short = refl
hex_short (suc k) v (b ∷ t) short =
    below_or (digit_of b) 16
    (λ digit. hex_digit b t k v digit ∙ hex_short k (v * 16 + digit_of b) t (omega arith))
    (λ other. hex_other b t k v other)

module _ (digits rest : List ℕ) (i v : ℕ) (more : i < length digits) (all : length digits ≡ 16) where
  from_here : drop i digits ++ rest ≡ get_or digits i 0 ∷ (drop (i + 1) digits ++ rest)
  from_here = rw add-one (rw (drop-cons digits i 0 more))

  pub hex_turn :
      (d : ℕ) → digit_value (get_or digits i 0) ≡ Some d
      → hex_after (16 - (i + 1)) (v * 16 + d) (drop (i + 1) digits ++ rest) ≡ hex_after (16 - i) v (drop i digits ++ rest)
  hex_turn d is =
      let left : 16 - i ≡ suc (16 - (i + 1)) = omega arith in
      let digit : digit_of (get_or digits i 0) ≡ d = value_digit (get_or digits i 0) d is in
      let small : digit_of (get_or digits i 0) < 16 = omega (arith, value_small (get_or digits i 0) d is) in
      rw (left, from_here, ← digit)
      (sym (hex_digit (get_or digits i 0) (drop (i + 1) digits ++ rest) (16 - (i + 1)) v small))

  pub hex_stop : digit_value (get_or digits i 0) ≡ None → hex_after (16 - i) v (drop i digits ++ rest) ≡ off
  hex_stop is =
      let left : 16 - i ≡ suc (16 - (i + 1)) = omega arith in
      rw (left, from_here)
      (hex_other (get_or digits i 0) (drop (i + 1) digits ++ rest) (16 - (i + 1)) v (omega (arith, value_none (get_or digits i 0) is)))

pub hex_done :
    (digits rest : List ℕ) (i v : ℕ) → length digits ≤ i → i ≤ length digits → length digits ≡ 16
    → hex_after (16 - i) v (drop i digits ++ rest) ≡ number v rest
unfolding hex_after
hex_done digits rest i v past within all =
    let last : i ≡ length digits = omega arith in
    let none : 16 - length digits ≡ 0 = omega arith in
    rw (last, none, drop-length digits)

-- ---- decimal digits

decimal_is : (b d : ℕ) → decimal_value b ≡ Some d → (digit_of b ≡ d) × (d < 10)
unfolding decimal_value
decimal_is b d is =
    below_or (digit_of b) 10
    (λ small. let same : digit_of b ≡ d = some_same (sym (simp (lt-ltb (digit_of b) 10 small)) ∙ is) in (same, omega arith))
    (λ large. never_some (sym is ∙ simp (le-ltb (digit_of b) 10 large)))

decimal_not : (b : ℕ) → decimal_value b ≡ None → 10 ≤ digit_of b
unfolding decimal_value
decimal_not b is =
    below_or (digit_of b) 10
    (λ small. never_some {d = digit_of b} (sym (simp (lt-ltb (digit_of b) 10 small)) ∙ is))
    (λ large. large)

module _ {text t : List ℕ} {b d : ℕ} (first : text ≡ b ∷ t) (is : decimal_value b ≡ Some d) where
  same : digit_of b ≡ d
  same = (decimal_is b d is).0

  small : digit_of b < 10
  small = omega (arith, decimal_is b d is)

  pub after_turn : (limit v : ℕ) → v * 10 + d ≤ limit → decimal_after limit (v * 10 + d) t ≡ decimal_after limit v text
  after_turn limit v within = rw (first, ← same) (sym (decimal_digit b t limit v small (omega (arith, same))))

  pub after_past : (limit v : ℕ) → limit < v * 10 + d → off ≡ decimal_after limit v text
  after_past limit v past = rw first (sym (decimal_past b t limit v small (omega (arith, same))))

  pub front_first : (limit : ℕ) → (b ≡ 48 → ⊥) → d ≤ limit → decimal_after limit d t ≡ decimal_front limit text
  front_first limit other within = rw (first, ← same) (sym (decimal_first b t limit other small (omega (arith, same))))

  pub front_large : (limit : ℕ) → (b ≡ 48 → ⊥) → limit < d → off ≡ decimal_front limit text
  front_large limit other past = rw first (sym (decimal_large b t limit other small (omega (arith, same))))

module _ {text t : List ℕ} {b : ℕ} (first : text ≡ b ∷ t) where
  pub after_other : (limit v : ℕ) → decimal_value b ≡ None → number v text ≡ decimal_after limit v text
  after_other limit v is = rw first (sym (decimal_ends b t limit v (decimal_not b is)))

  pub front_other : (limit : ℕ) → decimal_value b ≡ None → off ≡ decimal_front limit text
  front_other limit is = rw first (sym (decimal_none b t limit (decimal_not b is)))

  pub front_nought : (limit : ℕ) → b ≡ 48 → number 0 t ≡ decimal_front limit text
  front_nought limit is = rw first (sym (decimal_nought b t limit is))

pub after_all : (rest : List ℕ) (limit v : ℕ) → length rest ≡ 0 → number v rest ≡ decimal_after limit v rest
unfolding decimal_after
after_all [] limit v none = refl
after_all (b ∷ t) limit v none = absurd (omega arith)

pub front_ended : (t : List ℕ) (limit : ℕ) → length t ≡ 0 → off ≡ decimal_front limit t
unfolding decimal_front
front_ended [] limit none = refl
front_ended (b ∷ t) limit none = absurd (omega arith)

-- ---- room for digits

-- room for k more digits is room for one, and for k - 1 after it
pub room_one : (n k : ℕ) → 0 < k → (n + 1) * 16 ^ k ≤ 2 ^ 64 → (n + 1) * 16 ≤ 2 ^ 64
room_one n zero some room = absurd (omega arith)
room_one n (suc k) some room =
    let power : 16 ^ suc k ≡ 16 * 16 ^ k = pow-succ' 16 k in
    let one : 1 ≤ 16 ^ k = one-le-pow k 16 (omega arith) in
    omega (arith, rw power at room, mul-le-mul_left n one)

pub room_turn : (n k d : ℕ) → 0 < k → d < 16 → (n + 1) * 16 ^ k ≤ 2 ^ 64 → (n * 16 + d + 1) * 16 ^ (k - 1) ≤ 2 ^ 64
room_turn n zero d some digit room = absurd (omega arith)
room_turn n (suc k) d some digit room =
    let power : 16 ^ suc k ≡ 16 * 16 ^ k = pow-succ' 16 k in
    let less : suc k - 1 ≡ k = omega arith in
    let most : d ≤ 15 = omega arith in
    rw less (omega (arith, rw power at room, mul-le-mul_right (16 ^ k) most))

-- ---- digits put

pub put_turn : (base left rest at b : ℕ) (out : List ℕ) → 0 < left → b ≡ digit_byte (rest % base)
    → sets (set out (at + (left - 1)) b) at (digits base (left - 1) (rest / base)) ≡ sets out at (digits base left rest)
unfolding digits
put_turn base zero rest at b out some is = absurd (omega arith)
put_turn base (suc k) rest at b out some is =
    let less : suc k - 1 ≡ k = omega arith in
    rw (less, is, sets_last out at (digits base k (rest / base)) (digit_byte (rest % base)), digits_length base k (rest / base))

pub put_done : (base left rest at : ℕ) (out : List ℕ) → left ≤ 0 → out ≡ sets out at (digits base left rest)
unfolding digits
put_done base zero rest at out none = refl
put_done base (suc k) rest at out none = absurd (omega arith)
