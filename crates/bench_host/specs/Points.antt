-- The value of a model at the points of three lists of coordinates.
use Rattle.std.specs.Prelude.{ℕ, min, List, get_or, Float}
use Rattle.model.specs.Part.{past}
use Rattle.model.specs.Model.{parts_in, parts_value}
use Rattle.model.specs.declared.ImplicitModel.{ImplicitModel}

-- at point k; 64 parts count at most (rule M9)
abbrev pub value_at : ImplicitModel → (px py pz : List Float) → ℕ → Float
value_at m px py pz k = parts_value (parts_in m) (min m.count 64) (get_or px k past) (get_or py k past) (get_or pz k past)
