-- THE FLOAT TEST. Rounding keeps order and leaves a float as it is. So a product that lies between two floats lay between them before it was
-- rounded too: the float square of q's float, compared with the floats four patterns below and above the operand, bounds the exact square.
use mathlib.Core.Path.{◌≡◌, refl, sym, ap, ap₂, ◌∙◌, subst}
use mathlib.Core.Bool.{Bool, true, false}
use Prim.Native.Nat.{ℕ, suc, ◌+◌, ◌-◌, ◌*◌, ◌/◌, ◌%◌, ◌^◌, ◌≤◌, ◌<◌}
use native.Mathlib.Nat.{
  mul_assoc,
  mul_comm,
  mul_left_comm,
  mul-pos,
  mul-add,
  add-mul,
  mul-le-mul_right,
  lt_of_mul-lt-mul_right,
  two-pow-succ,
  not-le_of_lt,
  lt_of_not-le,
  lt_of_lt_of_le,
  lt_of_le_of_lt,
  le_refl,
  le_of_eq,
  le_trans,
}
use native.Mathlib.Omega.{arith}
use borrow.Author.Tests.{ltb-true, leb-true, leb-false}
use lib.Dec.{T, leb}
use lib.Pow.{pow_pos, pow_mono, shl_lt}
use lib.Ieee.{Float, nan, inf, fin, binary64, round, mul, lt, le, of_bits}
use lib.Ieee.Exact.{HasValue, round_exact, odd_sign}
use lib.Ieee.Order.{le_of_values, round_mono}
use lib.Ieee.Positive.{num, den, positive, le→cross, le_trans_positive, positive_of_value, between, mul_at}
use Rattle.root.specs.Inner.Reduced.{Reduced, scaled}
use Rattle.root.specs.Inner.Trials.{Near}
use Rattle.root.proofs.Patterns.{normal_bits}

-- ---- the order of floats above 0

lt_cross : (x y : Float) → T (positive x) → T (positive y) → lt x y ≡ true → num x * den y < num y * den x
unfolding lt
lt_cross nan y p q h = absurd p
lt_cross (inf s) y p q h = absurd p
lt_cross (fin true m e) y p q h = absurd p
lt_cross (fin false m e) nan p q h = absurd q
lt_cross (fin false m e) (inf t) p q h = absurd q
lt_cross (fin false m e) (fin true n d) p q h = absurd q
lt_cross (fin false m e) (fin false n d) p q h = ltb-true _ _ h

not_both : (x y : Float) → T (positive x) → T (positive y) → lt x y ≡ true → T (le y x) → ⊥
not_both x y p q h l = not-le_of_lt (lt_cross x y p q h) (le→cross y x q p l)

lt_le : (x y : Float) → lt x y ≡ true → T (le x y)
unfolding le
lt_le x y h = rw h tt

-- ---- the float of a normal pattern, and a fraction a / c that is rounded

abbrev float : ℕ → Float
float b = of_bits binary64 b

abbrev rounded : ℕ → ℕ → Float
rounded a c = round binary64 false a c

abbrev square : ℕ → Float
square b = mul binary64 (float b) (float b)

-- what a normal pattern stands for, in smallest values
abbrev units : ℕ → ℕ
units b = (b % 2 ^ 52 + 2 ^ 52) * 2 ^ (b / 2 ^ 52 - 1)

record Normal (b : ℕ) : Type 0 where
  least : 2 ^ 52 ≤ b
  most : b < 1100 * 2 ^ 52

module _ (b : ℕ) (n : Normal b) where
  value : HasValue (float b) false (units b) (2 ^ 1074)
  value =
      let k = b / 2 ^ 52 - 1 in
      let q = b % 2 ^ 52 + 2 ^ 52 in
      let e : k * 2 ^ 52 + q ≡ b = omega arith in
      let same = sym (normal_bits k q (omega arith) (omega arith) (omega arith)) ∙ ap float e in
      subst (λ (x : Float). HasValue x false (units b) (2 ^ 1074)) same (odd_sign 53 false q k 1074)

  above_zero : 0 < units b
  above_zero = mul-pos (let h : 0 < b % 2 ^ 52 + 2 ^ 52 = omega arith in h) (pow_pos (b / 2 ^ 52 - 1))

  own : T (positive (float b))
  own = positive_of_value (float b) (units b) (2 ^ 1074) value above_zero

  -- rounding leaves its value
  itself : HasValue (rounded (units b) (2 ^ 1074)) false (units b) (2 ^ 1074)
  itself =
      let few : b % 2 ^ 52 + 2 ^ 52 < 2 ^ 53 = omega arith in
      let j = b / 2 ^ 52 - 1 in
      let h : 53 + j ≤ 1074 + 1024 = omega arith in
      round_exact binary64 false (units b) (2 ^ 1074) (b % 2 ^ 52 + 2 ^ 52) j (pow_pos 1074) few (lt_of_lt_of_le (shl_lt 53 j few) (pow_mono h)) refl

  kept : T (positive (rounded (units b) (2 ^ 1074)))
  kept = positive_of_value (rounded (units b) (2 ^ 1074)) (units b) (2 ^ 1074) itself above_zero

  not_above : T (le (rounded (units b) (2 ^ 1074)) (float b))
  not_above = le_of_values _ (float b) (units b) (2 ^ 1074) (units b) (2 ^ 1074) (pow_pos 1074) (pow_pos 1074) itself value (le_refl _)

  not_below : T (le (float b) (rounded (units b) (2 ^ 1074)))
  not_below = le_of_values (float b) _ (units b) (2 ^ 1074) (units b) (2 ^ 1074) (pow_pos 1074) (pow_pos 1074) value itself (le_refl _)

  module _ (a c : ℕ) (C : 0 < c) (p : T (positive (rounded a c))) where
    stays_above : lt (float b) (rounded a c) ≡ true → units b * c < a * 2 ^ 1074
    stays_above h = lt_of_not-le
        (λ g. not_both (float b) (rounded a c) own p h
        (le_trans_positive (rounded a c) (rounded (units b) (2 ^ 1074)) (float b) p kept own
        (round_mono binary64 a c (units b) (2 ^ 1074) C (pow_pos 1074) g) not_above))

    stays_below : lt (rounded a c) (float b) ≡ true → a * 2 ^ 1074 < units b * c
    stays_below h = lt_of_not-le
        (λ g. not_both (rounded a c) (float b) p own h
        (le_trans_positive (float b) (rounded (units b) (2 ^ 1074)) (rounded a c) own kept p not_below
        (round_mono binary64 (units b) (2 ^ 1074) a c (pow_pos 1074) C g)))

-- ---- the square of a float between two floats

module _ (low b high : ℕ) (l : Normal low) (n : Normal b) (h : Normal high) where
  -- the square before it is rounded
  exact : Float
  exact = rounded (units b * units b) (2 ^ 1074 * 2 ^ 1074)

  squared : square b ≡ exact
  unfolding exact
  squared =
      let v = value b n in
      mul_at binary64 (float b) (float b) (units b) (2 ^ 1074) (units b) (2 ^ 1074) (own b n) (own b n) (pow_pos 1074) (pow_pos 1074) v v

  square_between : lt (float low) (square b) ≡ true
      → lt (square b) (float high) ≡ true
      → (units low * (2 ^ 1074 * 2 ^ 1074) < units b * units b * 2 ^ 1074) × (units b * units b * 2 ^ 1074 < units high * (2 ^ 1074 * 2 ^ 1074))
  unfolding exact
  square_between above below =
      let over : lt (float low) exact ≡ true = rw squared at above in
      let under : lt exact (float high) ≡ true = rw squared at below in
      let c : 0 < 2 ^ 1074 * 2 ^ 1074 = mul-pos (pow_pos 1074) (pow_pos 1074) in
      let p : T (positive exact) =
      between (float low) exact (float high) (own low l) (own high h) (lt_le (float low) exact over) (lt_le exact (float high) under) in
      (stays_above low l _ _ c p over, stays_below high h _ _ c p under)

-- x * 2 ^ j smallest values beside the square of q * 2 ^ j, with the powers taken out: c is 2 ^ (1074 - j)
module _ (x q j c : ℕ) (whole : c * 2 ^ j ≡ 2 ^ 1074) where
  out : x * 2 ^ j * (2 ^ 1074 * 2 ^ 1074) ≡ x * c * (2 ^ j * 2 ^ j * 2 ^ 1074)
  out = ap (λ (z : ℕ). x * 2 ^ j * (z * 2 ^ 1074)) (sym whole) ∙ simp (mul_assoc, mul_comm, mul_left_comm)

  out_square : q * 2 ^ j * (q * 2 ^ j) * 2 ^ 1074 ≡ q * q * (2 ^ j * 2 ^ j * 2 ^ 1074)
  out_square = simp (mul_assoc, mul_comm, mul_left_comm)

  over : x * 2 ^ j * (2 ^ 1074 * 2 ^ 1074) < q * 2 ^ j * (q * 2 ^ j) * 2 ^ 1074 → x * c < q * q
  over h = lt_of_mul-lt-mul_right (2 ^ j * 2 ^ j * 2 ^ 1074) (rw (← out, ← out_square) h)

  under : q * 2 ^ j * (q * 2 ^ j) * 2 ^ 1074 < x * 2 ^ j * (2 ^ 1074 * 2 ^ 1074) → q * q < x * c
  under h = lt_of_mul-lt-mul_right (2 ^ j * 2 ^ j * 2 ^ 1074) (rw (← out, ← out_square) h)

-- ---- the patterns four below and four above a reduced operand

doubled : (n k : ℕ) → n * 2 ^ suc k ≡ (n + n) * 2 ^ k
doubled n k = rw two-pow-succ (omega (arith, mul-add n (2 ^ k) (2 ^ k), add-mul n n (2 ^ k)))

units_are : (b m k : ℕ) → b % 2 ^ 52 + 2 ^ 52 ≡ m → b / 2 ^ 52 - 1 ≡ k → units b ≡ m * 2 ^ k
units_are b m k e f = ap₂ (λ x y. x * 2 ^ y) e f

-- the factor between a square of digits and the digits of a number, in either binade
whole : (f : ℕ) → 1022 ≤ f → f < 1024 → (2 - f % 2) * 2 ^ 52 * 2 ^ (f - 1) ≡ 2 ^ 1074
whole f l u = go (leb 1023 f) refl
  where
    go : (b : Bool) → leb 1023 f ≡ b → (2 - f % 2) * 2 ^ 52 * 2 ^ (f - 1) ≡ 2 ^ 1074
    go true e = ap (λ (x : ℕ). (2 - x % 2) * 2 ^ 52 * 2 ^ (x - 1)) (let g : f ≡ 1023 = omega (arith, leb-true 1023 f e) in g)
    go false e = ap (λ (x : ℕ). (2 - x % 2) * 2 ^ 52 * 2 ^ (x - 1)) (let g : f ≡ 1022 = omega (arith, leb-false 1023 f e) in g)

near_by : (m c s : ℕ) → 4 ≤ m → c ≤ 2 ^ 53 → (m - 4) * c < s → s < (m + 8) * c → Near (m * c) s
near_by m c s h l a b =
    let n = m - 4 in
    let e : m ≡ n + 4 = omega arith in
    let f : m * c ≡ (n + 4) * c = ap (λ (x : ℕ). x * c) e in
    omega arith

module _ (p : ℕ) (r : Reduced p) where
  four_below : (p % 2 ^ 52 + 2 ^ 52 - 4) * 2 ^ (p / 2 ^ 52 - 1) ≤ units (p - 4)
  four_below = go (leb 4 (p % 2 ^ 52)) refl
    where
      go : (b : Bool) → leb 4 (p % 2 ^ 52) ≡ b → (p % 2 ^ 52 + 2 ^ 52 - 4) * 2 ^ (p / 2 ^ 52 - 1) ≤ units (p - 4)
      go true e =
          let f : 4 ≤ p % 2 ^ 52 = leb-true 4 (p % 2 ^ 52) e in
          le_of_eq (sym (units_are (p - 4) (p % 2 ^ 52 + 2 ^ 52 - 4) (p / 2 ^ 52 - 1) (omega arith) (omega arith)))
      go false e =
          let f : p % 2 ^ 52 < 4 = leb-false 4 (p % 2 ^ 52) e in
          let n = p % 2 ^ 52 + 2 ^ 52 - 4 in
          let k = p / 2 ^ 52 - 2 in
          let j : p / 2 ^ 52 - 1 ≡ suc k = omega arith in
          let h : n + n ≤ n + 2 ^ 52 = omega arith in
          le_trans (le_of_eq (ap (λ (x : ℕ). n * 2 ^ x) j ∙ doubled n k))
          (le_trans (mul-le-mul_right (2 ^ k) h) (le_of_eq (sym (units_are (p - 4) (n + 2 ^ 52) k (omega arith) (omega arith)))))

  four_above : units (p + 4) ≤ (p % 2 ^ 52 + 2 ^ 52 + 8) * 2 ^ (p / 2 ^ 52 - 1)
  four_above = go (leb (2 ^ 52) (p % 2 ^ 52 + 4)) refl
    where
      go : (b : Bool) → leb (2 ^ 52) (p % 2 ^ 52 + 4) ≡ b → units (p + 4) ≤ (p % 2 ^ 52 + 2 ^ 52 + 8) * 2 ^ (p / 2 ^ 52 - 1)
      go true e =
          let f : 2 ^ 52 ≤ p % 2 ^ 52 + 4 = leb-true (2 ^ 52) (p % 2 ^ 52 + 4) e in
          let n = p % 2 ^ 52 + 4 in
          let k = p / 2 ^ 52 - 1 in
          let h : n + n ≤ p % 2 ^ 52 + 2 ^ 52 + 8 = omega arith in
          le_trans (le_of_eq (units_are (p + 4) n (suc k) (omega arith) (omega arith) ∙ doubled n k)) (mul-le-mul_right (2 ^ k) h)
      go false e =
          let f : p % 2 ^ 52 + 4 < 2 ^ 52 = leb-false (2 ^ 52) (p % 2 ^ 52 + 4) e in
          let n = p % 2 ^ 52 + 2 ^ 52 + 4 in
          let k = p / 2 ^ 52 - 1 in
          let h : n ≤ p % 2 ^ 52 + 2 ^ 52 + 8 = omega arith in
          le_trans (le_of_eq (units_are (p + 4) n k (omega arith) (omega arith))) (mul-le-mul_right (2 ^ k) h)

  -- q's float has the operand's exponent
  pub square_near : (q : ℕ) → 2 ^ 52 ≤ q → q < 2 ^ 53
      → lt (float (p - 4)) (square (p - p % 2 ^ 52 + (q - 2 ^ 52))) ≡ true
      → lt (square (p - p % 2 ^ 52 + (q - 2 ^ 52))) (float (p + 4)) ≡ true
      → Near (scaled p) (q * q)
  square_near q l u above below =
      let b = p - p % 2 ^ 52 + (q - 2 ^ 52) in
      let m = p % 2 ^ 52 + 2 ^ 52 in
      let j = p / 2 ^ 52 - 1 in
      let c = (2 - p / 2 ^ 52 % 2) * 2 ^ 52 in
      let few : c ≤ 2 ^ 53 = omega arith in
      let w : c * 2 ^ j ≡ 2 ^ 1074 = whole (p / 2 ^ 52) (omega arith) (omega arith) in
      let s : units b ≡ q * 2 ^ j = units_are b q j (omega arith) (omega arith) in
      let t = square_between (p - 4) b (p + 4) (omega arith) (omega arith) (omega arith) above below in
      let low = lt_of_le_of_lt (mul-le-mul_right (2 ^ 1074 * 2 ^ 1074) four_below) (rw s at t.0) in
      let high = lt_of_lt_of_le (rw s at t.1) (mul-le-mul_right (2 ^ 1074 * 2 ^ 1074) four_above) in
      subst (λ (n : ℕ). Near n (q * q)) (sym (mul_assoc m (2 - p / 2 ^ 52 % 2) (2 ^ 52)))
      (near_by m c (q * q) (omega arith) few (over (m - 4) q j c w low) (under (m + 8) q j c w high))
