-- Each cause stands at its number.
use Rattle.std.proofs.Common.{◌≡◌, ◌-◌, ◌<◌, refl, get_or, arith}
use Rattle.causes.specs.declared.Cause.{Cause}
use Rattle.causes.specs.declared.Cause.TheVariants.{
  Bounds,
  BlockSize,
  BandLimit,
  Parts,
  Nodes,
  TooShort,
  NoJob,
  ImpossibleRecord,
  Dimensions,
  Outside,
  Walk,
}
use Rattle.causes.specs.Number.{number_of}
use Rattle.causes.specs.All.{all_causes}

pub cause_at : (cause other : Cause) → get_or all_causes (number_of cause - 1) other ≡ cause
cause_at Bounds other = refl
cause_at BlockSize other = refl
cause_at BandLimit other = refl
cause_at Parts other = refl
cause_at Nodes other = refl
cause_at TooShort other = refl
cause_at NoJob other = refl
cause_at ImpossibleRecord other = refl
cause_at Dimensions other = refl
cause_at Outside other = refl
cause_at Walk other = refl

-- and no number is 0
pub number_above : (cause : Cause) → 0 < number_of cause
number_above Bounds = omega arith
number_above BlockSize = omega arith
number_above BandLimit = omega arith
number_above Parts = omega arith
number_above Nodes = omega arith
number_above TooShort = omega arith
number_above NoJob = omega arith
number_above ImpossibleRecord = omega arith
number_above Dimensions = omega arith
number_above Outside = omega arith
number_above Walk = omega arith
