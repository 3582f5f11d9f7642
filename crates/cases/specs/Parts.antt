-- A part of a model as five numbers: its kind, and four that say the rest; and a model as its parts.
use Rattle.std.specs.Prelude.{ℕ, zero, suc, ◌+◌, ◌-◌, ◌*◌, min, if◌then◌else◌, List, [], ◌∷◌, ◌++◌, ◌==◌, drop, replicate, slice_index}
use Rattle.float.specs.Zero.{plus_zero}
use Rattle.model.specs.declared.Part.{Part}
use Rattle.model.specs.declared.Part.TheVariants.{Constant, Sphere, Plane, Min, Max, Add, Sub, Neg}
use Rattle.model.specs.declared.ModelComponent.{ModelComponent}
use Rattle.model.specs.declared.ImplicitModel.{ImplicitModel}
use Rattle.cases.specs.Numbers.{short_at, float_at, vector_at}

-- 0 is a constant, 1 a sphere, 2 a plane, 3 to 6 min, max, add and sub, any other kind neg
abbrev pub part_at : List ℕ → ℕ → Part
part_at xs i =
    if slice_index xs i == 0 then Constant (float_at xs (i + 1)) else
    (if slice_index xs i == 1 then Sphere (vector_at xs (i + 1)) (float_at xs (i + 4)) else
    (if slice_index xs i == 2 then Plane (vector_at xs (i + 1)) (float_at xs (i + 4)) else
    (if slice_index xs i == 3 then Min (short_at xs (i + 1)) (short_at xs (i + 2)) else
    (if slice_index xs i == 4 then Max (short_at xs (i + 1)) (short_at xs (i + 2)) else
    (if slice_index xs i == 5 then Add (short_at xs (i + 1)) (short_at xs (i + 2)) else
    (if slice_index xs i == 6 then Sub (short_at xs (i + 1)) (short_at xs (i + 2)) else Neg (short_at xs (i + 1))))))))

abbrev pub component : Part → ModelComponent
component part = record { part = part }

-- so many parts, one after the other
unfoldable pub parts_at : List ℕ → ℕ → List ModelComponent
parts_at xs zero = []
parts_at xs (suc n) = parts_at xs n ++ component (part_at (drop (5 * n) xs) 0) ∷ []

-- a model that counts so many parts: of its 64 places those that are given are read, and the others hold the constant +0
abbrev pub model_at : List ℕ → (given count : ℕ) → ImplicitModel
model_at xs given count = record {
  parts = parts_at xs (min given 64) ++ replicate (64 - min given 64) (component (Constant plus_zero));
  count = count;
}
