-- The corners of a node, and those that its active children need (rules G8 to G10).
use Rattle.std.specs.Prelude.{ℕ, ◌+◌, Bool, ◌&&◌, List}
use Rattle.std.specs.Float.{binary64}
use Rattle.std.specs.Float.Ieee.{add, mul}
use Rattle.geometry.specs.declared.Vec3.{Vec3}
use Rattle.geometry.specs.declared.BoundingBox.{BoundingBox}
use Rattle.geometry.specs.Values.{vec3}
use Rattle.geometry.specs.Index.{indices_of}
use Rattle.geometry.specs.Axis.{as_float, step_along}
use Rattle.geometry.specs.Octet.{octet_places}
use Rattle.lists.specs.Ranges.{any_below, list_below, among}
use Rattle.grid.specs.Blocks.{cube}
use Rattle.grid.specs.Boxes.{child_indices}

-- where a corner of a node stands: steps of the x axis along all three (rule G8)
unfoldable pub corner_point : BoundingBox → (n corner : ℕ) → Vec3
corner_point b n corner =
    let c = step_along b.min.x b.max.x n in
    let at = indices_of corner (n + 1) (n + 1) in
    vec3
    (add binary64 b.min.x (mul binary64 c (as_float at.i)))
    (add binary64 b.min.y (mul binary64 c (as_float at.j)))
    (add binary64 b.min.z (mul binary64 c (as_float at.k)))

-- the eight corners of child c, in octet order (rule G10)
unfoldable pub octet : (n c : ℕ) → List ℕ
octet n c = octet_places (n + 1) (n + 1) (child_indices n c)

-- whether one of a node's active children has the corner, from the test for active children (rule G9)
unfoldable pub needed : (n : ℕ) → (ℕ → Bool) → ℕ → Bool
needed n act corner = any_below (cube n) (λ c. act c && among corner (octet n c))

-- a node's needed corners, in ascending order (rule G9)
unfoldable pub needed_corners : (n : ℕ) → (ℕ → Bool) → List ℕ
needed_corners n act = list_below (cube (n + 1)) (needed n act)
