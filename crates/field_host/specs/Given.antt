-- A box, a model and a job's input, from numbers.
use Rattle.std.specs.Prelude.{ℕ, ◌+◌, cond, List, ltb, get_or, Float}
use Rattle.lists.specs.Slices.{LentSlice}
use Rattle.lists.specs.Tabulate.{tabulate}
use Rattle.geometry.specs.declared.Vec3.{Vec3}
use Rattle.geometry.specs.declared.Vec3i.{Vec3i}
use Rattle.geometry.specs.declared.BoundingBox.{BoundingBox}
use Rattle.geometry.specs.Values.{vec3, vec3i, box}
use Rattle.grid.specs.declared.Grid.{Grid}
use Rattle.input.specs.declared.Input.{Input}
use Rattle.model.specs.declared.Part.{Part}
use Rattle.model.specs.declared.Part.TheVariants.{Neg}
use Rattle.model.specs.declared.ModelComponent.{ModelComponent}
use Rattle.model.specs.declared.ImplicitModel.{ImplicitModel}
use Rattle.model.specs.Flat.{Flat, flat_in, part_from}
use Rattle.model.specs.Part.{past}

abbrev pub box_given : (x0 y0 z0 x1 y1 z1 : Float) → BoundingBox
box_given x0 y0 z0 x1 y1 z1 = box (vec3 x0 y0 z0) (vec3 x1 y1 z1)

-- the box of six numbers: its least end, and its most
abbrev pub box_in : List Float → BoundingBox
box_in b = box_given (get_or b 0 past) (get_or b 1 past) (get_or b 2 past) (get_or b 3 past) (get_or b 4 past) (get_or b 5 past)

-- three indices of a list
abbrev pub indices_in : List ℕ → Vec3i
indices_in c = vec3i (get_or c 0 0) (get_or c 1 0) (get_or c 2 0)

abbrev pub grid_given : BoundingBox → Float → (inner leaf : ℕ) → Grid
grid_given bounds cell inner leaf = record { bounds = bounds; cell = cell; inner = inner; leaf = leaf }

-- what a code reads as that no part has: its input stands below no place, so cause 4 refuses it (rule R15)
abbrev pub no_part : Part
no_part = Neg 4294967295

-- the part of any code with its vector, number and inputs
unfoldable pub part_coded : ℕ → Vec3 → Float → (a b : ℕ) → Part
part_coded code v w a b = cond (ltb 7 code) no_part (part_from code v w a b)

-- the part that two lists have at a place, whatever its inputs are
unfoldable pub part_given : Flat → ℕ → Part
part_given l p =
    part_coded (get_or l.words p 0)
    (vec3 (get_or l.numbers p past) (get_or l.numbers (64 + p) past) (get_or l.numbers (128 + p) past))
    (get_or l.numbers (192 + p) past)
    (get_or l.words (64 + p) 0)
    (get_or l.words (128 + p) 0)

abbrev pub component_given : Flat → ℕ → ModelComponent
component_given l p = record { part = part_given l p }

abbrev pub model_given : Flat → ℕ → ImplicitModel
model_given l count = record { parts = tabulate 64 (component_given l); count = count }

-- the input of a job. Nine settings: the bounds' least end and their most, the cell's size, the band
unfoldable pub input_given : List Float → (inner leaf : ℕ) → Flat → (count : ℕ) → Input
input_given s inner leaf l count =
    record {
      grid = grid_given (box_given (get_or s 0 past) (get_or s 1 past) (get_or s 2 past) (get_or s 3 past) (get_or s 4 past) (get_or s 5 past)) (get_or s 6 past) inner leaf;
      band = record { min = get_or s 7 past; max = get_or s 8 past };
      model = model_given l count;
    }

-- of arrays that are lent, as a call finds them
abbrev pub input_lent : LentSlice Float → (inner leaf : ℕ) → LentSlice ℕ → LentSlice Float → (count : ℕ) → Input
input_lent settings inner leaf parts reals count = input_given settings.entry.now inner leaf (flat_in parts reals) count
