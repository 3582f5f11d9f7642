-- What floor and ceiling are. The result of a number that binary64 holds is a whole number with the number's sign. Its size n stands in a bound to the
-- number's own, the fraction m * up e / down e: n ≤ size < n + 1 (`Below`) where the result lies toward zero, n - 1 < size ≤ n (`Above`) where it lies away.
-- So the floor is not above the number, which is below the floor plus 1, and the ceiling the other way round.
use Rattle.std.proofs.Common.{◌≡◌, ℕ, suc, ◌+◌, ◌*◌, ◌%◌, ◌<◌, ◌≤◌, Bool, true, false, cond, ◌&&◌, ◌||◌, T, eqb, ltb, ℤ, pos, negsuc, sym, refl, ap, ◌∙◌, subst, true≢false, mod-lt, div-add-mod', mul-one, arith, eqb→eq, eqb-true}
use mathlib.Core.Bool.{not-not}
use borrow.Author.Tests.{eqb-false}
use lib.Ieee.{Float, nan, inf, fin, binary64, up, down, neg, round, fits, lt, le, eq}
use lib.Ieee.Exact.{HasValue}
use lib.Ieee.Order.{le_of_values}
use lib.Ieee.Scale.{finite}
use lib.Ieee.Fits.{and_i, and_l, eq→eqb, neg-fits, down_pos, round-fits, nan-fits, inf-fits}
use Rattle.float.specs.Whole.{whole_below, whole_above, floor_of, ceil_of}
use Rattle.float.proofs.Whole.{above_zero, exact_below, exact_above, neg_floor, neg_ceil}

pub record Below (m : ℕ) (e : ℤ) (n : ℕ) : Type 0 where
  pub least : n * down e ≤ m * up e
  pub under : m * up e < suc n * down e

pub record Above (m : ℕ) (e : ℤ) (n : ℕ) : Type 0 where
  pub most : m * up e ≤ n * down e
  pub over : n * down e < m * up e + down e

below : (m : ℕ) (e : ℤ) → Below m e (whole_below m e)
below m e = record {
  least = omega (arith, div-add-mod' (m * up e) (down e));
  under = omega (arith, div-add-mod' (m * up e) (down e), mod-lt (m * up e) (down_pos e));
}

above : (m : ℕ) (e : ℤ) → Above m e (whole_above m e)
above m e = by (eqb (m * up e % down e) 0) refl
  where
    by : (b : Bool) → eqb (m * up e % down e) 0 ≡ b → Above m e (cond b (whole_below m e) (suc (whole_below m e)))
    by true none = record {
      most = omega (arith, div-add-mod' (m * up e) (down e), eqb-true (m * up e % down e) 0 none);
      over = omega (arith, div-add-mod' (m * up e) (down e), down_pos e);
    }
    by false some = record {
      most = omega (arith, div-add-mod' (m * up e) (down e), mod-lt (m * up e) (down_pos e));
      over = omega (arith, div-add-mod' (m * up e) (down e), above_zero (m * up e % down e) (eqb-false (m * up e % down e) 0 some));
    }

-- the result r is a whole number of the sign s, with the bound P on its size
abbrev pub Whole : (s : Bool) (r : Float) (P : ℕ → Type 0) → Type 0
Whole s r P = (n : ℕ) × HasValue r s n 1 × P n

module _ (m : ℕ) (e : ℤ) where
  pub floor_plus_is : T (fits binary64 (fin false m e)) → Whole false (floor_of (fin false m e)) (Below m e)
  unfolding floor_of
  floor_plus_is fit = (whole_below m e, exact_below binary64 false false m e fit, below m e)

  pub floor_minus_is : T (fits binary64 (fin true m e)) → Whole true (floor_of (fin true m e)) (Above m e)
  unfolding floor_of
  floor_minus_is fit = (whole_above m e, exact_above binary64 true true m e fit, above m e)

  pub ceil_plus_is : T (fits binary64 (fin false m e)) → Whole false (ceil_of (fin false m e)) (Above m e)
  unfolding ceil_of
  ceil_plus_is fit = (whole_above m e, exact_above binary64 false false m e fit, above m e)

  pub ceil_minus_is : T (fits binary64 (fin true m e)) → Whole true (ceil_of (fin true m e)) (Below m e)
  unfolding ceil_of
  ceil_minus_is fit = (whole_below m e, exact_below binary64 true true m e fit, below m e)

-- ---- the other values, and the format

pub floor_nan : floor_of nan ≡ nan
unfolding floor_of
floor_nan = refl

pub floor_infinity : (s : Bool) → floor_of (inf s) ≡ inf s
unfolding floor_of
floor_infinity s = refl

pub ceil_nan : ceil_of nan ≡ nan
unfolding ceil_of
ceil_nan = refl

pub ceil_infinity : (s : Bool) → ceil_of (inf s) ≡ inf s
unfolding ceil_of
ceil_infinity s = refl

pub floor_fits : (x : Float) → T (fits binary64 (floor_of x))
unfolding floor_of
floor_fits nan = nan-fits binary64
floor_fits (inf s) = inf-fits binary64 s
floor_fits (fin false m e) = round-fits binary64 false (whole_below m e) 1
floor_fits (fin true m e) = round-fits binary64 true (whole_above m e) 1

pub ceil_fits : (x : Float) → T (fits binary64 (ceil_of x))
unfolding ceil_of
ceil_fits nan = nan-fits binary64
ceil_fits (inf s) = inf-fits binary64 s
ceil_fits (fin false m e) = round-fits binary64 false (whole_above m e) 1
ceil_fits (fin true m e) = round-fits binary64 true (whole_below m e) 1

neg_neg : (x : Float) → neg (neg x) ≡ x
unfolding neg
neg_neg nan = refl
neg_neg (inf s) = ap inf (not-not s)
neg_neg (fin s m e) = ap (λ t. fin t m e) (not-not s)

-- each is the other, mirrored
pub ceil_mirrored : (x : Float) → ceil_of x ≡ neg (floor_of (neg x))
ceil_mirrored x = sym (neg_floor (neg x) ∙ ap ceil_of (neg_neg x))

pub floor_mirrored : (x : Float) → floor_of x ≡ neg (ceil_of (neg x))
floor_mirrored x = sym (neg_ceil (neg x) ∙ ap floor_of (neg_neg x))

-- ---- in the floats' own order, which is that of the exact values

own : (m : ℕ) (e : ℤ) → HasValue (fin false m e) false (m * up e) (down e)
own m e = (refl, refl)

-- an equality may be read from either side
turned : (a b : ℕ) → T (ltb a b || (eqb a b && true)) → T (ltb a b || (eqb b a && true))
turned a b le = by (ltb a b) le
  where
    by : (t : Bool) → T (t || (eqb a b && true)) → T (t || (eqb b a && true))
    by true h = tt
    by false h = and_i (eqb b a) true (eq→eqb (sym (eqb→eq a b (and_l (eqb a b) true h)))) tt

-- the mirror turns the order round
mirrored : (x y : Float) (a c b d : ℕ) → HasValue x false a c → HasValue y false b d → T (le x y) → T (le (neg y) (neg x))
unfolding le lt eq neg
mirrored nan y a c b d v w h = absurd v
mirrored (inf s) y a c b d v w h = absurd v
mirrored (fin true m e) y a c b d v w h = absurd (true≢false v.0)
mirrored (fin false m e) nan a c b d v w h = absurd w
mirrored (fin false m e) (inf s) a c b d v w h = absurd w
mirrored (fin false m e) (fin true n k) a c b d v w h = absurd (true≢false w.0)
mirrored (fin false m e) (fin false n k) a c b d v w h = turned (m * up e * down k) (n * up k * down e) h

module _ (m : ℕ) (e : ℤ) (fit : T (fits binary64 (fin false m e))) where
  floor_under : T (le (floor_of (fin false m e)) (fin false m e))
  floor_under =
      let f = floor_plus_is m e fit in
      le_of_values (floor_of (fin false m e)) (fin false m e) f.0 1 (m * up e) (down e) (omega arith) (down_pos e) f.1 (own m e) (rw mul-one f.2.least)

  ceil_over : T (le (fin false m e) (ceil_of (fin false m e)))
  ceil_over =
      let f = ceil_plus_is m e fit in
      le_of_values (fin false m e) (ceil_of (fin false m e)) (m * up e) (down e) f.0 1 (down_pos e) (omega arith) (own m e) f.1 (rw mul-one f.2.most)

-- the floor of a number is not above it
pub floor_not_above : (x : Float) → T (fits binary64 x) → T (finite x) → T (le (floor_of x) x)
unfolding neg
floor_not_above nan fit number = absurd number
floor_not_above (inf s) fit number = absurd number
floor_not_above (fin false m e) fit number = floor_under m e fit
floor_not_above (fin true m e) fit number =
    let plus : T (fits binary64 (fin false m e)) = neg-fits binary64 (fin true m e) fit in
    let c = ceil_plus_is m e plus in
    subst (λ r. T (le r (fin true m e))) (neg_ceil (fin false m e))
    (mirrored (fin false m e) (ceil_of (fin false m e)) (m * up e) (down e) c.0 1 (own m e) c.1 (ceil_over m e plus))

-- the ceiling of a number is not below it
pub ceil_not_below : (x : Float) → T (fits binary64 x) → T (finite x) → T (le x (ceil_of x))
unfolding neg
ceil_not_below nan fit number = absurd number
ceil_not_below (inf s) fit number = absurd number
ceil_not_below (fin false m e) fit number = ceil_over m e fit
ceil_not_below (fin true m e) fit number =
    let plus : T (fits binary64 (fin false m e)) = neg-fits binary64 (fin true m e) fit in
    let f = floor_plus_is m e plus in
    subst (λ r. T (le (fin true m e) r)) (neg_floor (fin false m e))
    (mirrored (floor_of (fin false m e)) (fin false m e) f.0 1 (m * up e) (down e) f.1 (own m e) (floor_under m e plus))

-- ---- the sign of a zero: -0.5 and -0
pub ceil_minus_half : ceil_of (fin true 1 (negsuc 0)) ≡ fin true 0 (pos 0)
unfolding ceil_of round
ceil_minus_half = refl

pub floor_minus_zero : floor_of (fin true 0 (pos 0)) ≡ fin true 0 (pos 0)
unfolding floor_of round
floor_minus_zero = refl

pub ceil_minus_zero : ceil_of (fin true 0 (pos 0)) ≡ fin true 0 (pos 0)
unfolding ceil_of round
ceil_minus_zero = refl
