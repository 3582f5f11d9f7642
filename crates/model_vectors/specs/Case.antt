-- A case: a point, and a model that grows part by part.
use Rattle.std.specs.Prelude.{ℕ, ◌+◌, if◌then◌else◌, List, replicate, nat_lt, slice_set}
use Rattle.float.specs.Zero.{plus_zero}
use Rattle.geometry.specs.declared.Vec3.{Vec3}
use Rattle.model.specs.declared.Part.{Part}
use Rattle.model.specs.declared.Part.TheVariants.{Constant}
use Rattle.model.specs.declared.ModelComponent.{ModelComponent}
use Rattle.model.specs.declared.ImplicitModel.{ImplicitModel}
use Rattle.model_vectors.specs.declared.case.Case.{Case}

abbrev pub component : Part → ModelComponent
component part = record { part = part }

abbrev pub model_of : List ModelComponent → ℕ → ImplicitModel
model_of parts count = record { parts = parts; count = count }

-- a point, and a model without parts: each of its 64 places is the constant +0
abbrev pub started : Vec3 → Case
started p = record { point = p; model = model_of (replicate 64 (component (Constant plus_zero))) 0 }

-- one part more; past the 64th none is kept, and the count is 65, so that cause 4 applies
abbrev pub longer : ImplicitModel → Part → ImplicitModel
longer m part =
    if nat_lt m.count 64
    then model_of (slice_set m.parts m.count (component part)) (m.count + 1)
    else model_of m.parts 65

abbrev pub with_part : Case → Part → Case
with_part c part = record { point = c.point; model = longer c.model part }
