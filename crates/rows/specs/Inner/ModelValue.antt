-- The value at a point of a model of any contents.
use Rattle.std.specs.Prelude.{min, Float}
use Rattle.model.specs.declared.ImplicitModel.{ImplicitModel}
use Rattle.model.specs.Model.{parts_in, parts_value}

-- its last part's (rules M8 and M10)
unfoldable pub model_at : ImplicitModel → (x y z : Float) → Float
model_at m = parts_value (parts_in m) (min m.count 64)
