-- What the calls on one cell answer: eight points, or eight values (rules D13 to D15).
use Rattle.std.specs.Prelude.{not, ◌||◌, List, [], ◌∷◌, length, Result, Float}
use Rattle.causes.specs.declared.Cause.{Cause}
use Rattle.causes.specs.declared.Cause.TheVariants.{Bounds, Dimensions, Outside}
use Rattle.causes.specs.First.{refused_if, first_of}
use Rattle.geometry.specs.declared.Vec3.{Vec3}
use Rattle.geometry.specs.declared.Vec3i.{Vec3i}
use Rattle.geometry.specs.Index.{dimensions_refused}
use Rattle.geometry.specs.Bounds.{point_refused, cell_refused}
use Rattle.dense_field.specs.Field.{values_refused}
use Rattle.dense_field.specs.Octets.{cell_inside, corners_of, octet_of}

-- the corners of cell c of a field of n points: cause 1 of the origin and the cell size, 9 of the dimensions and their product alone, then
-- 10 (rules D13 and D14)
unfoldable pub cell_corners_of : Vec3 → Float → Vec3i → Vec3i → Result (List Vec3) Cause
cell_corners_of origin cell n c =
    first_of
    (refused_if (point_refused origin || cell_refused cell) Bounds ∷ refused_if (dimensions_refused n.i n.j n.k) Dimensions ∷ refused_if (not (cell_inside n c)) Outside ∷ [])
    (corners_of origin cell c)

-- the values at its corners: 9, then 10 (rule D15)
unfoldable pub cell_values_of : Vec3i → List Float → Vec3i → Result (List Float) Cause
cell_values_of n vs c =
    first_of (refused_if (values_refused n (length vs)) Dimensions ∷ refused_if (not (cell_inside n c)) Outside ∷ []) (octet_of n vs c)
