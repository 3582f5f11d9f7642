-- All causes.
use Rattle.std.specs.Prelude.{List, [], ◌∷◌}
use Rattle.causes.specs.declared.Cause.{Cause}
use Rattle.causes.specs.declared.Cause.TheVariants.{
  Bounds,
  BlockSize,
  BandLimit,
  Parts,
  Nodes,
  TooShort,
  NoJob,
  ImpossibleRecord,
  Dimensions,
  Outside,
  Walk,
}

-- in the order of their numbers from 1 on
abbrev pub all_causes : List Cause
all_causes = Bounds ∷ BlockSize ∷ BandLimit ∷ Parts ∷ Nodes ∷ TooShort ∷ NoJob ∷ ImpossibleRecord ∷ Dimensions ∷ Outside ∷ Walk ∷ []
