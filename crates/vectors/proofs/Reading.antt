-- Laws of the definitions in specs/Text: a byte and its place, one step of reading a number, a row.
use Rattle.std.proofs.Common.{◌≡◌, ℕ, zero, suc, ◌+◌, ◌-◌, ◌*◌, ◌^◌, ◌<◌, ◌≤◌, Bool, true, false, Option, Some, None, ltb, List, [], ◌∷◌, length, get_or, refl, sym, ◌∙◌, mul-le-mul_right, mul-le-mul_left, arith, ltb-false, ltb-true, ne_eqb}
use native.Mathlib.Nat.{one-le-pow, pow-succ'}
use lib.ListN.{get_or-eq_default}
use Rattle.std.specs.Option.{option_and_then}
use mathlib.Core.Bool.{and-false}
use Rattle.vectors.specs.Text.{byte_at, digit_of, hex_from, hex_at, joined, row_at}
use Rattle.vectors.specs.Inner.{IsPart}

-- ---- bytes

pub byte_inside : (s : List ℕ) (at : ℕ) → at < length s → byte_at s at ≡ get_or s at 0
unfolding byte_at
byte_inside [] at below = absurd (omega arith)
byte_inside (b ∷ s) zero below = refl
byte_inside (b ∷ s) (suc at) below = byte_inside s at (omega arith)

pub byte_outside : (s : List ℕ) (at : ℕ) → length s ≤ at → byte_at s at ≡ 256
unfolding byte_at
byte_outside s at past = get_or-eq_default s 256 past

-- ---- a number

pub digit_small : (b d : ℕ) → digit_of b ≡ Some d → d < 16
digit_small b d is = grind arith

-- a text that ends before the digits do has no number there
module _ (k : ℕ) (s : List ℕ) (at n : ℕ) (rest : (m : ℕ) → at < length s → hex_from k s (suc at) m ≡ None) where
  no_next : (o : Option ℕ) → at < length s → option_and_then (λ d. hex_from k s (suc at) (n * 16 + d)) o ≡ None
  no_next None below = refl
  no_next (Some d) below = rest (n * 16 + d) below

  no_digit : (t : Bool) → ltb at (length s) ≡ t → hex_from (suc k) s at n ≡ None
  unfolding hex_from
  no_digit true e = no_next (digit_of (byte_at s at)) (ltb-true at (length s) e)
  no_digit false e = rw (byte_outside s at (ltb-false at (length s) e))

pub hex_short : (k : ℕ) (s : List ℕ) (at n : ℕ) → 0 < k → length s < at + k → hex_from k s at n ≡ None
hex_short zero s at n some short = absurd (omega arith)
hex_short (suc k) s at n some short =
    no_digit k s at n (λ m below. hex_short k s (suc at) m (omega arith) (omega arith)) (ltb at (length s)) refl

pub hex_done : (s : List ℕ) (at n k : ℕ) → k ≡ 0 → hex_from k s at n ≡ Some n
unfolding hex_from
hex_done s at n zero none = refl
hex_done s at n (suc k) none = absurd (omega arith)

-- one digit more, where i of the 16 are read
module _ (s part : List ℕ) (at n i : ℕ) (is : IsPart s at 16 part) (more : i < length part) where
  here : byte_at s (at + i) ≡ get_or part i 0
  here = byte_inside s (at + i) (omega (arith, is.inside, is.counted)) ∙ sym (is.same i (omega (arith, is.counted)))

  left : 16 - i ≡ suc (16 - (i + 1))
  left = omega (arith, is.counted)

  pub turn : (d : ℕ) → digit_of (get_or part i 0) ≡ Some d → hex_from (16 - i) s (at + i) n ≡ hex_from (16 - (i + 1)) s (at + (i + 1)) (n * 16 + d)
  unfolding hex_from
  turn d digit = let next : at + (i + 1) ≡ suc (at + i) = omega arith in rw (left, here, digit, next)

  pub stop : digit_of (get_or part i 0) ≡ None → hex_from (16 - i) s (at + i) n ≡ None
  unfolding hex_from
  stop other = rw (left, here, other)

  -- room for the digits that are left is room for one, and for the others after it
  power : 16 ^ (16 - i) ≡ 16 * 16 ^ (16 - (i + 1))
  power = rw left (pow-succ' 16 (16 - (i + 1)))

  pub room_one : (n + 1) * 16 ^ (16 - i) ≤ 2 ^ 64 → (n + 1) * 16 ≤ 2 ^ 64
  room_one room =
      let one : 1 ≤ 16 ^ (16 - (i + 1)) = one-le-pow (16 - (i + 1)) 16 (omega arith) in
      omega (arith, rw power at room, mul-le-mul_left n one)

  pub room_step : (d : ℕ) → d < 16 → (n + 1) * 16 ^ (16 - i) ≤ 2 ^ 64 → (n * 16 + d + 1) * 16 ^ (16 - (i + 1)) ≤ 2 ^ 64
  room_step d digit room =
      let most : d ≤ 15 = omega arith in
      omega (arith, rw power at room, mul-le-mul_right (16 ^ (16 - (i + 1))) most)

-- ---- a row

pub row_short : (s : List ℕ) (at : ℕ) → length s < at + 51 → row_at s at ≡ None
unfolding row_at
row_short s at short = rw (byte_outside s (at + 50) (omega arith), and-false)

module _ (s part : List ℕ) (at : ℕ) (is : IsPart s at 51 part) where
  in_row : (k : ℕ) → k < 51 → byte_at s (at + k) ≡ get_or part k 0
  in_row k below = byte_inside s (at + k) (omega (arith, is.inside)) ∙ sym (is.same k below)

  pub row_first : (get_or part 16 0 ≡ 32 → ⊥) → row_at s at ≡ None
  unfolding row_at
  row_first other = rw (in_row 16 (omega arith), ne_eqb (get_or part 16 0) 32 other)

  pub row_second : (get_or part 33 0 ≡ 32 → ⊥) → row_at s at ≡ None
  unfolding row_at
  row_second other = rw (in_row 33 (omega arith), ne_eqb (get_or part 33 0) 32 other, and-false)

  pub row_third : (get_or part 50 0 ≡ 10 → ⊥) → row_at s at ≡ None
  unfolding row_at
  row_third other = rw (in_row 50 (omega arith), ne_eqb (get_or part 50 0) 10 other, and-false)

  pub row_whole : get_or part 16 0 ≡ 32 → get_or part 33 0 ≡ 32 → get_or part 50 0 ≡ 10
      → row_at s at ≡ joined (hex_at s at) (hex_at s (at + 17)) (hex_at s (at + 34))
  unfolding row_at
  row_whole first second third = rw (in_row 16 (omega arith), in_row 33 (omega arith), in_row 50 (omega arith), first, second, third)
