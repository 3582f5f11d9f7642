-- Floor and ceiling: exact, and what their code computes.
use Rattle.std.proofs.Common.{◌≡◌, ℕ, zero, suc, ◌+◌, ◌*◌, ◌%◌, ◌^◌, ◌<◌, ◌≤◌, Bool, true, false, cond, not, ◌&&◌, T, eqb, ltb, leb, ℤ, pos, negsuc, sym, refl, ap, ◌∙◌, true≢false, mul-le-mul_right, mul_assoc, div-lt_iff_lt-mul, add_comm, mul-lt-mul_of_pos_right, mul-pos, div-add-mod', zero-mul, mul-one, div-le_self, mul_right_comm, div-one, add-one, arith, ltb→lt, lt→ltb, pow_pos, pow-add, shl_lt, ltb-false, ltb-true, le-ltb, lt-ltb, eq-eqb, eqb-true}
use native.Mathlib.Nat.{min-eq_left, pow-succ'}
use borrow.Author.Tests.{eqb-false}
use lib.Ieee.{Float, nan, inf, fin, Format, binary64, prec, emax, low, up, down, odd, units, round, neg, lt, fits, of_int, to_unsigned}
use lib.Ieee.Back.{round_whole, whole_unique}
use lib.Ieee.Exact.{HasValue, round_exact}
use lib.Ieee.Fits.{down_pos, and_l, and_r, round-fits}
use Rattle.float.proofs.Count.{count_exact}
use Rattle.float.proofs.Sign.{neg_abs}
use Rattle.float.specs.Sign.{abs_of, negative}
use Rattle.float.specs.Whole.{whole_below, whole_above, floor_of, ceil_of}

-- ---- the sign goes through

neg_odd : (d : ℕ) (s : Bool) (q k l : ℕ) → neg (odd d s q k l) ≡ odd d (not s) q k l
unfolding neg odd
neg_odd d s zero k l = refl
neg_odd d s (suc q) k l = refl

neg_cond : (b : Bool) (x y : Float) → neg (cond b x y) ≡ cond b (neg x) (neg y)
neg_cond true x y = refl
neg_cond false x y = refl

neg_units : (f : Format) (s : Bool) (q k : ℕ) → neg (units f s q k) ≡ units f (not s) q k
unfolding units neg
neg_units f s q k =
    let below = ltb (q * 2 ^ k) (2 ^ (low f + suc (emax f))) in
    neg_cond below (odd (suc (prec f)) s q k (low f)) (inf s) ∙ ap (λ x. cond below x (inf (not s))) (neg_odd (suc (prec f)) s q k (low f))

neg_round : (f : Format) (s : Bool) (n d : ℕ) → neg (round f s n d) ≡ round f (not s) n d
unfolding round
neg_round f s n d = neg_units f s _ _

pub neg_floor : (x : Float) → neg (floor_of x) ≡ ceil_of (neg x)
unfolding floor_of ceil_of neg
neg_floor nan = refl
neg_floor (inf s) = refl
neg_floor (fin false m e) = neg_round binary64 false (whole_below m e) 1
neg_floor (fin true m e) = neg_round binary64 true (whole_above m e) 1

pub neg_ceil : (x : Float) → neg (ceil_of x) ≡ floor_of (neg x)
unfolding floor_of ceil_of neg
neg_ceil nan = refl
neg_ceil (inf s) = refl
neg_ceil (fin false m e) = neg_round binary64 false (whole_above m e) 1
neg_ceil (fin true m e) = neg_round binary64 true (whole_below m e) 1

-- ---- the whole numbers that arise are values of the format

record Digits (f : Format) (m : ℕ) (e : ℤ) : Type 0 where
  few : m < 2 ^ prec f
  most : m * up e < 2 ^ suc (emax f) * down e

digits : (f : Format) (s : Bool) (m : ℕ) (e : ℤ) → T (fits f (fin s m e)) → Digits f m e
unfolding fits
digits f s zero e fit = record { few = pow_pos (prec f); most = rw zero-mul (mul-pos (pow_pos (suc (emax f))) (down_pos e)) }
digits f s (suc m) e fit =
    let odd = eqb (suc m % 2) 1 in
    let few = ltb (suc m) (2 ^ prec f) in
    let fine = leb (down e) (2 ^ low f) in
    let most = ltb (suc m * up e) (2 ^ suc (emax f) * down e) in
    record {
      few = ltb→lt _ _ (and_r odd few (and_l (odd && few) fine (and_l (odd && few && fine) most fit)));
      most = ltb→lt _ _ (and_r (odd && few && fine) most fit);
    }

-- a value without a fraction has one whole number, above as below
above_whole : (m : ℕ) (e : ℤ) → m * up e % down e ≡ 0 → whole_above m e ≡ whole_below m e
above_whole m e none = rw (eq-eqb (m * up e % down e) 0 none)

above_most : (m : ℕ) (e : ℤ) → whole_above m e ≤ suc (whole_below m e)
above_most m e = by (eqb (m * up e % down e) 0)
  where
    by : (b : Bool) → cond b (whole_below m e) (suc (whole_below m e)) ≤ suc (whole_below m e)
    by true = omega arith
    by false = omega arith

below_few : (f : Format) (s : Bool) (m k : ℕ) → T (fits f (fin s m (negsuc k))) → whole_below m (negsuc k) < 2 ^ prec f
below_few f s m k fit = omega (arith, div-le_self (m * 1) (2 ^ suc k), (digits f s m (negsuc k) fit).few)

pub exact_below : (f : Format) (s t : Bool) (m : ℕ) (e : ℤ) → T (fits f (fin s m e)) → HasValue (round f t (whole_below m e) 1) t (whole_below m e) 1
exact_below f s t m (pos k) fit =
    round_exact f t (whole_below m (pos k)) 1 m (k + low f) (omega arith) (digits f s m (pos k) fit).few
    (rw (pow-add 2 k (low f), ← mul_assoc m (2 ^ k) (2 ^ low f), add_comm (low f) (suc (emax f))) (shl_lt (suc (emax f)) (low f) reach))
    (simp (div-one, mul-one, pow-add, mul_assoc))
  where
    reach : m * 2 ^ k < 2 ^ suc (emax f)
    reach = rw mul-one at (digits f s m (pos k) fit).most
exact_below f s t m (negsuc k) fit = round_whole f t (whole_below m (negsuc k)) (omega (arith, below_few f s m k fit))

pub exact_above : (f : Format) (s t : Bool) (m : ℕ) (e : ℤ) → T (fits f (fin s m e)) → HasValue (round f t (whole_above m e) 1) t (whole_above m e) 1
exact_above f s t m (pos k) fit = rw (above_whole m (pos k) (omega arith)) (exact_below f s t m (pos k) fit)
exact_above f s t m (negsuc k) fit = round_whole f t (whole_above m (negsuc k)) (omega (arith, below_few f s m k fit, above_most m (negsuc k)))

-- a value without a fraction is the float of its whole number
pub whole_same : (f : Format) (s : Bool) (m : ℕ) (e : ℤ) → T (fits f (fin s m e)) → m * up e % down e ≡ 0 → round f s (whole_below m e) 1 ≡ fin s m e
whole_same f s m e fit none =
    whole_unique f (round f s (whole_below m e) 1) (fin s m e) s (whole_below m e) (round-fits f s (whole_below m e) 1) fit (exact_below f s s m e fit)
    (refl, mul-one (m * up e) ∙ omega (arith, div-add-mod' (m * up e) (down e)))

-- from 2 ^ 52 on nothing has a fraction
no_fraction : (s : Bool) (m : ℕ) (e : ℤ) → T (fits binary64 (fin s m e)) → lt (fin false m e) (fin false 1 (pos 52)) ≡ false → m * up e % down e ≡ 0
unfolding lt
no_fraction s m (pos k) fit large = omega arith
no_fraction s m (negsuc k) fit large =
    let most : 2 ^ 52 * 2 ^ suc k ≤ m * 1 * 1 = ltb-false _ _ large in
    absurd (omega (arith, (digits binary64 s m (negsuc k) fit).few, pow-succ' 2 k, pow_pos k))

module _ (s : Bool) (m : ℕ) (e : ℤ) (fit : T (fits binary64 (fin s m e))) (large : lt (fin false m e) (fin false 1 (pos 52)) ≡ false) where
  large_below : round binary64 s (whole_below m e) 1 ≡ fin s m e
  large_below = whole_same binary64 s m e fit (no_fraction s m e fit large)

  large_above : round binary64 s (whole_above m e) 1 ≡ fin s m e
  large_above = rw (above_whole m e (no_fraction s m e fit large)) large_below

pub floor_large : (x : Float) → T (fits binary64 x) → lt (abs_of x) (fin false 1 (pos 52)) ≡ false → floor_of x ≡ x
unfolding abs_of floor_of
floor_large nan fit large = refl
floor_large (inf s) fit large = refl
floor_large (fin false m e) fit large = large_below false m e fit large
floor_large (fin true m e) fit large = large_above true m e fit large

pub ceil_large : (x : Float) → T (fits binary64 x) → lt (abs_of x) (fin false 1 (pos 52)) ≡ false → ceil_of x ≡ x
unfolding abs_of ceil_of
ceil_large nan fit large = refl
ceil_large (inf s) fit large = refl
ceil_large (fin false m e) fit large = large_above false m e fit large
ceil_large (fin true m e) fit large = large_below true m e fit large

-- ---- sizes below 2 ^ 52, as the code has them

of_count : (n : ℕ) → of_int binary64 (pos n) ≡ round binary64 false n 1
unfolding of_int
of_count n = refl

-- such a size is a number without a minus
size_of : (P : Float → Type 0) (a : Float) → negative a ≡ false → T (lt a (fin false 1 (pos 52))) → ((m : ℕ) (e : ℤ) → T (lt (fin false m e) (fin false 1 (pos 52))) → P (fin false m e)) → P a
unfolding negative lt
size_of P nan plus small at = absurd small
size_of P (inf true) plus small at = absurd (true≢false plus)
size_of P (inf false) plus small at = absurd small
size_of P (fin true m e) plus small at = absurd (true≢false plus)
size_of P (fin false m e) plus small at = at m e small

below_limit : (m : ℕ) (e : ℤ) → T (lt (fin false m e) (fin false 1 (pos 52))) → whole_below m e < 2 ^ 52
unfolding lt
below_limit m e small = let few : m * up e * 1 < 2 ^ 52 * down e = ltb→lt _ _ small in (div-lt_iff_lt-mul (down_pos e)).1 (rw mul-one at few)

truncates : (m : ℕ) (e : ℤ) → T (lt (fin false m e) (fin false 1 (pos 52))) → to_unsigned 64 (fin false m e) ≡ whole_below m e
unfolding to_unsigned
truncates m e small = min-eq_left (omega (arith, below_limit m e small))

-- what `truncating_f64_to_u64` asks
abbrev InRange : Float → Type 0
InRange a = T (lt (fin true 1 (pos 0)) a) × T (lt a (fin false 1 (pos 64)))

pub in_range : (a : Float) → negative a ≡ false → T (lt a (fin false 1 (pos 52))) → InRange a
unfolding lt
in_range a plus small = size_of InRange a plus small at
  where
    at : (m : ℕ) (e : ℤ) → T (lt (fin false m e) (fin false 1 (pos 52))) → InRange (fin false m e)
    at m e below =
        let few : m * up e * 1 < 2 ^ 52 * down e = ltb→lt _ _ below in
        let above : 0 < 1 * down e + m * up e * 1 = omega (arith, down_pos e) in
        let under : m * up e * 1 < 2 ^ 64 * down e = omega (arith, down_pos e) in
        (lt→ltb _ _ above, lt→ltb _ _ under)

-- a common factor changes no comparison
scaled_test : (a b d : ℕ) → 0 < d → ltb (a * d) (b * d) ≡ ltb a b
scaled_test a b d positive = by (ltb a b) refl
  where
    by : (t : Bool) → ltb a b ≡ t → ltb (a * d) (b * d) ≡ t
    by true e = lt-ltb _ _ (mul-lt-mul_of_pos_right (ltb-true a b e) positive)
    by false e = le-ltb _ _ (mul-le-mul_right d (ltb-false a b e))

-- a whole number n against a size
whole_test : (x : Float) (n m : ℕ) (e : ℤ) → HasValue x false n 1 → lt x (fin false m e) ≡ ltb (n * down e) (m * up e)
unfolding lt
whole_test nan n m e value = absurd value
whole_test (inf s) n m e value = absurd value
whole_test (fin true m' e') n m e value = absurd (true≢false value.0)
whole_test (fin false m' e') n m e value =
    let same : m' * up e' ≡ n * down e' = sym (mul-one (m' * up e')) ∙ value.1 in
    rw (same, mul_right_comm n (down e') (down e)) (scaled_test (n * down e) (m * up e) (down e') (down_pos e'))

pub above_zero : (n : ℕ) → (n ≡ 0 → ⊥) → 0 < n
above_zero zero other = absurd (other refl)
above_zero (suc n) other = omega arith

fraction_test : (m : ℕ) (e : ℤ) → ltb (whole_below m e * down e) (m * up e) ≡ not (eqb (m * up e % down e) 0)
fraction_test m e = by (eqb (m * up e % down e) 0) refl
  where
    by : (t : Bool) → eqb (m * up e % down e) 0 ≡ t → ltb (whole_below m e * down e) (m * up e) ≡ not t
    by true none = le-ltb (whole_below m e * down e) (m * up e) (omega (arith, div-add-mod' (m * up e) (down e), eqb-true (m * up e % down e) 0 none))
    by false some = lt-ltb (whole_below m e * down e) (m * up e) (omega (arith, div-add-mod' (m * up e) (down e), above_zero (m * up e % down e) (eqb-false (m * up e % down e) 0 some)))

pub whole_small : (a : Float) → negative a ≡ false → T (lt a (fin false 1 (pos 52))) → to_unsigned 64 a < 2 ^ 52
whole_small a plus small = size_of (λ x. to_unsigned 64 x < 2 ^ 52) a plus small (λ m e below. rw (truncates m e below) (below_limit m e below))

pub floor_size : (a : Float) → negative a ≡ false → T (lt a (fin false 1 (pos 52))) → of_int binary64 (pos (to_unsigned 64 a)) ≡ floor_of a
unfolding of_int floor_of
floor_size a plus small = size_of (λ x. of_int binary64 (pos (to_unsigned 64 x)) ≡ floor_of x) a plus small at
  where
    at : (m : ℕ) (e : ℤ) → T (lt (fin false m e) (fin false 1 (pos 52))) → of_int binary64 (pos (to_unsigned 64 (fin false m e))) ≡ floor_of (fin false m e)
    at m e below = rw (truncates m e below)

-- one more where the whole number is below the size
abbrev one_more : Float → ℕ
one_more a = cond (lt (of_int binary64 (pos (to_unsigned 64 a))) a) (to_unsigned 64 a + 1) (to_unsigned 64 a)

more : (b : Bool) (q : ℕ) → cond (not b) (q + 1) q ≡ cond b q (suc q)
more true q = refl
more false q = add-one q

pub ceil_size : (a : Float) → negative a ≡ false → T (lt a (fin false 1 (pos 52))) → of_int binary64 (pos (one_more a)) ≡ ceil_of a
unfolding ceil_of
ceil_size a plus small = size_of (λ x. of_int binary64 (pos (one_more x)) ≡ ceil_of x) a plus small at
  where
    at : (m : ℕ) (e : ℤ) → T (lt (fin false m e) (fin false 1 (pos 52))) → of_int binary64 (pos (one_more (fin false m e))) ≡ ceil_of (fin false m e)
    at m e below =
        let test : lt (of_int binary64 (pos (whole_below m e))) (fin false m e) ≡ not (eqb (m * up e % down e) 0) =
        whole_test _ (whole_below m e) m e (count_exact (whole_below m e) (omega (arith, below_limit m e below))) ∙ fraction_test m e in
        rw (truncates m e below, test, more (eqb (m * up e % down e) 0) (whole_below m e)) (of_count (whole_above m e))

-- the same by the code's own steps: n is the whole part, w its float, and b the test
pub ceil_by_test : (a : Float) (b : Bool) (n : ℕ) (w : Float) → negative a ≡ false → T (lt a (fin false 1 (pos 52))) → n ≡ to_unsigned 64 a → w ≡ of_int binary64 (pos n) → lt w a ≡ b
    → of_int binary64 (pos (cond b (n + 1) n)) ≡ ceil_of a
ceil_by_test a b n w plus small count float test = rw (← test, float, count) (ceil_size a plus small)

-- ---- by the sign

pub floor_minus : (x : Float) → negative x ≡ true → neg (ceil_of (abs_of x)) ≡ floor_of x
floor_minus x minus = neg_ceil (abs_of x) ∙ ap floor_of (neg_abs x minus)
