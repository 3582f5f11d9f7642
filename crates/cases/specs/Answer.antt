-- The numbers that an answer's values are written as.
use Rattle.std.specs.Prelude.{ℕ, ◌<◌, ◌≤◌, Bool, Result, Ok, Err, if◌then◌else◌, List, [], ◌∷◌, ◌++◌, Float, to_bits}
use Rattle.std.specs.Float.{binary64}
use Rattle.arrayvec.specs.ArrayVec.{array_vec_len}
use Rattle.causes.specs.declared.Cause.{Cause}
use Rattle.causes.specs.Number.{number_of}
use Rattle.geometry.specs.declared.Vec3.{Vec3}
use Rattle.geometry.specs.declared.Vec3i.{Vec3i}
use Rattle.geometry.specs.declared.BoundingBox.{BoundingBox}
use Rattle.grid.specs.declared.Grid.{Grid}
use Rattle.cases.specs.declared.answer.Written.{Written}
use Rattle.model.specs.declared.Part.{Part}
use Rattle.model.specs.declared.Part.TheVariants.{Constant, Sphere, Plane, Min, Max, Add, Sub, Neg}

-- what became of a call: 0, or the number of the cause that refused it
abbrev pub outcome_of : {A : Type 0} → Result A Cause → ℕ
outcome_of (Ok value) = 0
outcome_of (Err cause) = number_of cause

abbrev pub flag_of : Bool → ℕ
flag_of b = if b then 1 else 0

-- a float's bits
abbrev pub bits_of : Float → ℕ
bits_of x = to_bits binary64 x

abbrev pub vector_bits : Vec3 → List ℕ
vector_bits p = bits_of p.x ∷ bits_of p.y ∷ bits_of p.z ∷ []

abbrev pub indices_of : Vec3i → List ℕ
indices_of n = n.i ∷ n.j ∷ n.k ∷ []

abbrev pub box_bits : BoundingBox → List ℕ
box_bits b = vector_bits b.min ++ vector_bits b.max

-- a grid: its bounds, its cell, its blocks
abbrev pub grid_bits : Grid → List ℕ
grid_bits g = box_bits g.bounds ++ (bits_of g.cell ∷ g.inner ∷ g.leaf ∷ [])

-- a part: its kind, and four numbers
abbrev pub part_bits : Part → List ℕ
part_bits (Constant x) = 0 ∷ bits_of x ∷ 0 ∷ 0 ∷ 0 ∷ []
part_bits (Sphere v r) = 1 ∷ bits_of v.x ∷ bits_of v.y ∷ bits_of v.z ∷ bits_of r ∷ []
part_bits (Plane v d) = 2 ∷ bits_of v.x ∷ bits_of v.y ∷ bits_of v.z ∷ bits_of d ∷ []
part_bits (Min a b) = 3 ∷ a ∷ b ∷ 0 ∷ 0 ∷ []
part_bits (Max a b) = 4 ∷ a ∷ b ∷ 0 ∷ 0 ∷ []
part_bits (Add a b) = 5 ∷ a ∷ b ∷ 0 ∷ 0 ∷ []
part_bits (Sub a b) = 6 ∷ a ∷ b ∷ 0 ∷ 0 ∷ []
part_bits (Neg a) = 7 ∷ a ∷ 0 ∷ 0 ∷ 0 ∷ []

-- an answer that is given has 1 to 160 numbers
abbrev pub Given : Written 160 → Type 0
Given answer = (0 < array_vec_len answer.numbers) × (array_vec_len answer.numbers ≤ 160)
