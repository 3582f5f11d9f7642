-- Smoothing by how far a neighbour's place is from a point's own, as the code finds it: a row is n.i and a slab n.i * n.j long.
use Rattle.std.specs.Prelude.{ℕ, ◌+◌, ◌-◌, ◌*◌, List, Float}
use Rattle.std.specs.Float.{binary64}
use Rattle.std.specs.Float.Ieee.{add}
use Rattle.geometry.specs.declared.Vec3i.{Vec3i}
use Rattle.dense_field.specs.Smoothing.{value_of, blended}

-- the sum of the six neighbours of an interior point, which stands at p
unfoldable pub offset_sum : Vec3i → List Float → ℕ → Float
offset_sum n vs p =
    let at : ℕ → Float = value_of vs in
    let row = n.i in
    let slab = n.i * n.j in
    add binary64
    (add binary64 (add binary64 (add binary64 (add binary64 (at (p + 1)) (at (p - 1))) (at (p + row))) (at (p - row)))
    (at (p + slab))) (at (p - slab))

-- its value blended with that
unfoldable pub offset_blend : Vec3i → Float → List Float → ℕ → Float
offset_blend n f vs p = blended f (value_of vs p) (offset_sum n vs p)
