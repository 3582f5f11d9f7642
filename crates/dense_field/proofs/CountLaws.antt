-- A float as a count up to 2 ^ 24, and dimensions that are cut off right above that.
use Rattle.std.proofs.Common.{◌≡◌, ℕ, ◌+◌, ◌*◌, ◌/◌, ◌^◌, ◌<◌, ◌≤◌, min, Bool, true, false, T, ℤ, pos, sym, refl, ◌∙◌, true≢false, div-lt_iff_lt-mul, le-div_iff_mul-le, mul-one, arith, ltb-false, ltb-true, lt-ltb, eq-eqb}
use lib.Ieee.{Float, nan, inf, fin, up, down, lt, eq, ne, level, to_unsigned}
use lib.Ieee.Fits.{down_pos}
use Rattle.geometry.specs.Index.{dimensions_refused}
use Rattle.geometry.proofs.Grid.{accepted, x_le, y_le, z_le}

-- 2 ^ 24 and -1
abbrev pub most : Float
most = fin false 1 (pos 24)

abbrev pub minus_one : Float
minus_one = fin true 1 (pos 0)

whole_below : (m : ℕ) (e : ℤ) → lt (fin false m e) most ≡ true → m * up e / down e < 2 ^ 24
unfolding lt
whole_below m e h =
    let few : m * up e * 1 < 2 ^ 24 * down e = ltb-true _ _ h in
    (div-lt_iff_lt-mul (down_pos e)).1 (rw mul-one at few)

-- below 2 ^ 24 a value is in reach of a cast, and its count is below 2 ^ 24
pub below_most : (q : Float) → lt q most ≡ true → T (lt q (fin false 1 (pos 64)))
unfolding lt
below_most nan h = absurd (true≢false (sym h))
below_most (inf false) h = absurd (true≢false (sym h))
below_most (inf true) h = tt
below_most (fin false m e) h =
    let few : m * up e * 1 < 2 ^ 24 * down e = ltb-true _ _ h in
    rw (lt-ltb (m * up e * 1) (1 * 2 ^ 64 * down e) (omega (arith, down_pos e))) tt
below_most (fin true m e) h = rw (lt-ltb 0 (m * up e * 1 + 1 * 2 ^ 64 * down e) (omega (arith, down_pos e))) tt

pub count_below_lem : (q : Float) → lt q most ≡ true → to_unsigned 64 q < 2 ^ 24
unfolding lt to_unsigned
count_below_lem nan h = omega arith
count_below_lem (inf false) h = absurd (true≢false (sym h))
count_below_lem (inf true) h = omega arith
count_below_lem (fin false m e) h = omega (arith, whole_below m e h)
count_below_lem (fin true m e) h = omega arith

pub count_none : (q : Float) → lt q most ≡ true → lt minus_one q ≡ false → to_unsigned 64 q ≡ 0
unfolding lt to_unsigned
count_none nan h k = refl
count_none (inf false) h k = absurd (true≢false (sym h))
count_none (inf true) h k = refl
count_none (fin false m e) h k = absurd (omega (arith, ltb-false 0 (1 * down e + m * up e * 1) k, down_pos e))
count_none (fin true m e) h k = refl

level_same : (s : Bool) (a : ℕ) → level s a s a ≡ true
level_same false a = rw (eq-eqb a a refl) refl
level_same true a = rw (eq-eqb a a refl) refl

pub count_nan : (q : Float) → ne q q ≡ true → to_unsigned 64 q ≡ 0
unfolding ne eq to_unsigned
count_nan nan h = refl
count_nan (inf false) h = absurd (true≢false (sym h))
count_nan (inf true) h = absurd (true≢false (sym h))
count_nan (fin s m e) h = absurd (true≢false (sym (rw (level_same s (m * up e * down e)) at h)))

pub count_most : (q : Float) → lt q most ≡ false → ne q q ≡ false → 2 ^ 24 ≤ to_unsigned 64 q
unfolding lt ne eq to_unsigned
count_most nan h k = absurd (true≢false k)
count_most (inf false) h k = omega arith
count_most (inf true) h k = absurd (true≢false h)
count_most (fin false m e) h k =
    let many : 2 ^ 24 * down e ≤ m * up e * 1 = ltb-false _ _ h in
    omega (arith, (le-div_iff_mul-le {x = 2 ^ 24} {y = m * up e} (down_pos e)).1 (omega arith))
count_most (fin true m e) h k = absurd (omega (arith, ltb-false 0 (m * up e * 1 + 2 ^ 24 * down e) h, down_pos e))

-- a number of points, cut off at one more than the largest product
abbrev pub capped : ℕ → ℕ
capped a = min a 16777217

pub record Uncut (a b c : ℕ) : Type 0 where
  pub first : capped a ≡ a
  pub second : capped b ≡ b
  pub third : capped c ≡ c

module _ (a b c : ℕ) where
  pub capped_passes : dimensions_refused (capped a) (capped b) (capped c) ≡ false → Uncut a b c
  capped_passes passed =
      let g = accepted (capped a) (capped b) (capped c) passed in
      let x = x_le (capped a) (capped b) (capped c) g.y_above g.z_above in
      let y = y_le (capped a) (capped b) (capped c) g.x_above g.z_above in
      let z = z_le (capped a) (capped b) (capped c) g.x_above g.y_above in
      record { first = omega arith; second = omega arith; third = omega arith }

  uncut : dimensions_refused a b c ≡ false → Uncut a b c
  uncut passed =
      let g = accepted a b c passed in
      let x = x_le a b c g.y_above g.z_above in
      let y = y_le a b c g.x_above g.z_above in
      let z = z_le a b c g.x_above g.y_above in
      record { first = omega arith; second = omega arith; third = omega arith }

  pub capped_refused : dimensions_refused (capped a) (capped b) (capped c) ≡ true → dimensions_refused a b c ≡ true
  capped_refused refused = one (dimensions_refused a b c) refl
    where
      one : (t : Bool) → dimensions_refused a b c ≡ t → dimensions_refused a b c ≡ true
      one true e = e
      one false e =
          let u = uncut e in
          let same : dimensions_refused (capped a) (capped b) (capped c) ≡ dimensions_refused a b c =
          λ i. dimensions_refused (u.first i) (u.second i) (u.third i) in
          sym same ∙ refused
