-- When an evaluation is what is stored: by bits, and any NaN counts as any other, as `to_bits` writes one pattern for all of them.
use Rattle.std.specs.Prelude.{ℕ, min, Bool, false, Result, Ok, Err, ◌==◌, from_bits, to_bits, Float}
use Rattle.std.specs.Float.{binary64}
use Rattle.causes.specs.declared.Cause.{Cause}
use Rattle.causes.specs.Number.{number_of}
use Rattle.model.specs.Model.{parts_in, parts_value}
use Rattle.model.specs.declared.ImplicitModel.{ImplicitModel}

abbrev pub same_bits : Float → ℕ → Bool
same_bits v stored = to_bits binary64 v == to_bits binary64 (from_bits binary64 stored)

-- a stored value is right where the model has that value
abbrev pub value_right : Result Float Cause → ℕ → Bool
value_right (Ok v) stored = same_bits v stored
value_right (Err cause) stored = false

-- a stored refusal is right where the model is refused by 4
abbrev pub refused_right : Result Float Cause → Bool
refused_right (Ok v) = false
refused_right (Err cause) = number_of cause == 4

-- the value of a model of any contents, of which 64 parts count at most
abbrev pub any_value : ImplicitModel → (x y z : Float) → Float
any_value m = parts_value (parts_in m) (min m.count 64)
