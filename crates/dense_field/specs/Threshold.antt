-- Threshold: small values become +0, all others stay (rule D11).
use Rattle.std.specs.Prelude.{cond, List, map, Float}
use Rattle.std.specs.Float.Ieee.{lt}
use Rattle.float.specs.Sign.{abs_of}
use Rattle.float.specs.Zero.{plus_zero}

-- one value (rule D11)
unfoldable pub cut : Float → Float → Float
cut limit v = cond (lt (abs_of v) limit) plus_zero v

-- all of a field (rule D11)
abbrev pub thresholded : Float → List Float → List Float
thresholded limit vs = map (cut limit) vs
