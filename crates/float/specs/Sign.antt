-- The sign of a value, and the value without it. A zero has a sign, a NaN has none.
use Rattle.std.specs.Prelude.{Bool, false, Float}
use Rattle.std.specs.Float.{nan, inf, fin}

-- |x|: |-0| is +0, and a NaN stays one (rule F11)
unfoldable pub abs_of : Float → Float
abs_of nan = nan
abs_of (inf s) = inf false
abs_of (fin s m e) = fin false m e

-- whether the sign is a minus
unfoldable pub negative : Float → Bool
negative nan = false
negative (inf s) = s
negative (fin s m e) = s
