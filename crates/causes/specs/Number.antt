-- The number of each cause (rules C1 to C11).
use Rattle.std.specs.Prelude.{ℕ}
use Rattle.causes.specs.declared.Cause.{Cause}
use Rattle.causes.specs.declared.Cause.TheVariants.{
  Bounds,
  BlockSize,
  BandLimit,
  Parts,
  Nodes,
  TooShort,
  NoJob,
  ImpossibleRecord,
  Dimensions,
  Outside,
  Walk,
}

abbrev pub number_of : Cause → ℕ
number_of Bounds = 1
number_of BlockSize = 2
number_of BandLimit = 3
number_of Parts = 4
number_of Nodes = 5
number_of TooShort = 6
number_of NoJob = 7
number_of ImpossibleRecord = 8
number_of Dimensions = 9
number_of Outside = 10
number_of Walk = 11
