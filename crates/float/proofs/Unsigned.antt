-- A float cut to a whole number of 64 bits, by its comparisons with 1 and 2 ^ 64.
use Rattle.std.proofs.Common.{◌≡◌, ◌+◌, ◌-◌, ◌*◌, ◌/◌, ◌^◌, ◌<◌, ◌≤◌, max, true, false, T, pos, sym, refl, true≢false, div-lt_iff_lt-mul, le-div_iff_mul-le, arith, lt→ltb, ltb-false, ltb-true}
use native.Mathlib.Nat.{le-min, min-eq_right, min-le_left, max-eq_left, max-eq_right}
use lib.Ieee.{Float, nan, inf, fin, up, down, lt, to_unsigned}
use lib.Ieee.Fits.{down_pos}

abbrev one : Float
one = fin false 1 (pos 0)

above_one : (x : Float) → lt one x ≡ true → 1 ≤ to_unsigned 64 x
unfolding lt to_unsigned
above_one nan e = absurd (true≢false (sym e))
above_one (inf true) e = absurd (true≢false (sym e))
above_one (inf false) e = omega arith
above_one (fin true m e) h = absurd (true≢false (sym h))
above_one (fin false m e) h =
    let over : 1 * down e < m * up e * 1 = ltb-true _ _ h in
    le-min ((le-div_iff_mul-le (down_pos e)).1 (omega arith)) (omega arith)

at_most_one : (x : Float) → lt one x ≡ false → to_unsigned 64 x ≤ 1
unfolding lt to_unsigned
at_most_one nan e = omega arith
at_most_one (inf true) e = omega arith
at_most_one (inf false) e = absurd (true≢false e)
at_most_one (fin true m e) h = omega arith
at_most_one (fin false m e) h =
    let under : m * up e * 1 ≤ 1 * down e = ltb-false _ _ h in
    let few : m * up e / down e < 2 = (div-lt_iff_lt-mul (down_pos e)).1 (omega (arith, down_pos e)) in
    omega (arith, min-le_left (m * up e / down e) (2 ^ 64 - 1))

-- above 1 the cut number is the larger
pub max_above : (x : Float) → lt one x ≡ true → max 1 (to_unsigned 64 x) ≡ to_unsigned 64 x
max_above x h = max-eq_right (above_one x h)

-- elsewhere it is 1, for a NaN too
pub max_below : (x : Float) → lt one x ≡ false → max 1 (to_unsigned 64 x) ≡ 1
max_below x h = max-eq_left (at_most_one x h)

pub past_all : (x : Float) → lt one x ≡ true → lt x (fin false 1 (pos 64)) ≡ false → to_unsigned 64 x ≡ 2 ^ 64 - 1
unfolding lt to_unsigned
past_all nan e f = absurd (true≢false (sym e))
past_all (inf true) e f = absurd (true≢false (sym e))
past_all (inf false) e f = refl
past_all (fin true m e) h f = absurd (true≢false (sym h))
past_all (fin false m e) h f =
    let over : 2 ^ 64 * down e ≤ m * up e * 1 = ltb-false _ _ f in
    let many : 2 ^ 64 ≤ m * up e / down e = (le-div_iff_mul-le (down_pos e)).1 (omega arith) in
    min-eq_right (omega arith)

-- above 1 is above -1
pub above_minus : (x : Float) → lt one x ≡ true → T (lt (fin true 1 (pos 0)) x)
unfolding lt
above_minus nan e = absurd (true≢false (sym e))
above_minus (inf true) e = absurd (true≢false (sym e))
above_minus (inf false) e = tt
above_minus (fin true m e) h = absurd (true≢false (sym h))
above_minus (fin false m e) h = lt→ltb 0 (1 * down e + m * up e * 1) (omega (arith, down_pos e))
