-- Smoothing: rounds that blend each interior value with the mean of its neighbours (rules D7 to D10).
use Rattle.std.specs.Prelude.{ℕ, zero, suc, ◌+◌, ◌-◌, Bool, cond, ◌||◌, List, nat_lt, slice_index_or, Float}
use Rattle.std.specs.Float.{binary64}
use Rattle.std.specs.Float.Ieee.{add, sub, mul, div}
use Rattle.lists.specs.Tabulate.{tabulate}
use Rattle.float.specs.Zero.{plus_zero}
use Rattle.geometry.specs.declared.Vec3i.{Vec3i}
use Rattle.geometry.specs.Index.{indices_of, place_of}
use Rattle.geometry.specs.Axis.{as_float}
use Rattle.dense_field.specs.Field.{values_refused, points_of, scratch_needed, outside}

-- cause 9, of the dimensions, the values and the scratch (rules D12 and C9)
unfoldable pub smooth_refused : Vec3i → (values scratch : ℕ) → Bool
smooth_refused n values scratch = values_refused n values || nat_lt scratch (scratch_needed n)

-- the old value at p
abbrev pub value_of : List Float → ℕ → Float
value_of vs p = slice_index_or vs p plus_zero

-- the sum of the six neighbours of an interior point, in their order (rule D8)
unfoldable pub neighbour_sum : Vec3i → List Float → Vec3i → Float
neighbour_sum n vs c =
    let at : (i j k : ℕ) → Float = λ i j k. value_of vs (place_of i j k n.i n.j) in
    add binary64
    (add binary64
    (add binary64
    (add binary64 (add binary64 (at (c.i + 1) c.j c.k) (at (c.i - 1) c.j c.k)) (at c.i (c.j + 1) c.k))
    (at c.i (c.j - 1) c.k))
    (at c.i c.j (c.k + 1))) (at c.i c.j (c.k - 1))

-- (1 - f) × v + f × (sum / 6) (rule D7)
unfoldable pub blended : (f v sum : Float) → Float
blended f v sum =
    add binary64 (mul binary64 (sub binary64 (as_float 1) f) v) (mul binary64 f (div binary64 sum (as_float 6)))

-- an interior value blended with its neighbours (rules D7 and D8)
unfoldable pub blended_at : Vec3i → Float → List Float → ℕ → Float
blended_at n f vs p = blended f (value_of vs p) (neighbour_sum n vs (indices_of p n.i n.j))

-- the new value at p, from the old values; an outside point keeps its own (rule D7)
unfoldable pub smoothed_at : Vec3i → Float → List Float → ℕ → Float
smoothed_at n f vs p = cond (outside n (indices_of p n.i n.j)) (value_of vs p) (blended_at n f vs p)

-- one round (rule D7)
unfoldable pub smoothed_once : Vec3i → Float → List Float → List Float
smoothed_once n f vs = tabulate (points_of n) (smoothed_at n f vs)

-- so many rounds, each on the values of the one before (rule D9)
unfoldable pub smoothed : Vec3i → Float → ℕ → List Float → List Float
smoothed n f zero vs = vs
smoothed n f (suc rounds) vs = smoothed_once n f (smoothed n f rounds vs)
