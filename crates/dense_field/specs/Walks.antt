-- Walks over the points and the cells of a grid in a box, and over a field's octets (rules W1 to W7).
use Rattle.std.specs.Prelude.{ℕ, ◌-◌, Bool, if◌then◌else◌, not, ◌||◌, List, [], ◌∷◌, length, ◌==◌, nat_lt, Option, Some, None, Result, Ok, Err, Float}
use Rattle.causes.specs.declared.Cause.{Cause}
use Rattle.causes.specs.declared.Cause.TheVariants.{Bounds, Dimensions, Outside, Walk}
use Rattle.causes.specs.First.{refused_if, first_of}
use Rattle.geometry.specs.declared.Vec3.{Vec3}
use Rattle.geometry.specs.declared.Vec3i.{Vec3i}
use Rattle.geometry.specs.declared.BoundingBox.{BoundingBox}
use Rattle.geometry.specs.Values.{vec3, vec3i, box}
use Rattle.geometry.specs.Index.{next_indices}
use Rattle.geometry.specs.Axis.{along, along_end}
use Rattle.geometry.specs.Bounds.{box_refused}
use Rattle.dense_field.specs.Field.{values_refused}
use Rattle.dense_field.specs.Octets.{octet_of}
use Rattle.dense_field.specs.declared.Step.{Step}

-- cause 11 of one count: fewer than the least, or too many (rule C11)
unfoldable pub count_refused : (least n : ℕ) → Bool
count_refused least n = nat_lt n least || nat_lt 16777216 n

-- cause 11: of the three counts, and of the cursor's i and j (rule C11)
unfoldable pub walk_refused : (least : ℕ) → Vec3i → Vec3i → Bool
walk_refused least n c =
    count_refused least n.i || count_refused least n.j || count_refused least n.k || not (nat_lt c.i n.i) || not (nat_lt c.j n.j)

-- the point at a cursor, as `PointGridIter` has it (rule W2)
unfoldable pub walk_point : BoundingBox → Vec3i → Vec3i → Vec3
walk_point b n c =
    vec3
    (along b.min.x b.max.x (n.i - 1) c.i)
    (along b.min.y b.max.y (n.j - 1) c.j)
    (along b.min.z b.max.z (n.k - 1) c.k)

-- the cell at a cursor, as `CellGridIter` has it: its max is its min and one step more (rule W3)
unfoldable pub walk_cell : BoundingBox → Vec3i → Vec3i → BoundingBox
walk_cell b n c =
    box
    (vec3 (along b.min.x b.max.x n.i c.i) (along b.min.y b.max.y n.j c.j) (along b.min.z b.max.z n.k c.k))
    (vec3 (along_end b.min.x b.max.x n.i c.i) (along_end b.min.y b.max.y n.j c.j) (along_end b.min.z b.max.z n.k c.k))

-- a step that finds something, with the cursor that comes next
abbrev pub step_to : {A : Type 0} → A → Vec3i → Step A
step_to found next = record { found = found; next = next }

-- a step by the place that comes next: what is found at the cursor goes with it, and where there is none it has nothing (rules W1 and W9)
abbrev pub step_by : {A : Type 0} → A → Result (Option Vec3i) Cause → Result (Option (Step A)) Cause
step_by found (Ok (Some next)) = Ok (Some (step_to found next))
step_by found (Ok None) = Ok None
step_by found (Err cause) = Err cause

-- the place that comes next: 1, then 11 with so many places at least; none where k has gone through (rules W1, W4 and W5)
unfoldable pub next_place : (least : ℕ) → BoundingBox → Vec3i → Vec3i → Result (Option Vec3i) Cause
next_place least b n c =
    first_of (refused_if (box_refused b) Bounds ∷ refused_if (walk_refused least n c) Walk ∷ [])
    (if nat_lt c.k n.k then Some (next_indices c n.i n.j) else None)

-- a step over points, of which each axis has two at least (rules W1, W2, W4 and W5)
abbrev pub point_step : BoundingBox → Vec3i → Vec3i → Result (Option (Step Vec3)) Cause
point_step b n c = step_by (walk_point b n c) (next_place 2 b n c)

-- the same over cells (rules W1, W3, W4 and W5)
abbrev pub cell_step : BoundingBox → Vec3i → Vec3i → Result (Option (Step BoundingBox)) Cause
cell_step b n c = step_by (walk_cell b n c) (next_place 1 b n c)

-- whether there is no cell: none along an axis (rule W7)
unfoldable pub no_cells : Vec3i → Bool
no_cells cells = cells.i == 0 || cells.j == 0 || cells.k == 0

-- the next cell: 9; none without any cell or with k past the last; 10 where only i or j is (rules W6 and W7)
unfoldable pub next_cell : Vec3i → (len : ℕ) → Vec3i → Result (Option Vec3i) Cause
next_cell n len c =
    let cells = vec3i (n.i - 1) (n.j - 1) (n.k - 1) in
    (if values_refused n len then Err Dimensions
    else (if no_cells cells || not (nat_lt c.k cells.k) then Ok None
    else (if not (nat_lt c.i cells.i) || not (nat_lt c.j cells.j) then Err Outside
    else Ok (Some (next_indices c cells.i cells.j)))))

-- a step over octets, with the values at the cell's corners (rules W6 and W7)
abbrev pub octet_step : Vec3i → List Float → Vec3i → Result (Option (Step (List Float))) Cause
octet_step n vs c = step_by (octet_of n vs c) (next_cell n (length vs) c)
