-- The causes of open: one list, and its first that applies (rules C1 to C6).
use Rattle.std.specs.Prelude.{Bool, ◌||◌, List, [], ◌∷◌, Result}
use Rattle.std.specs.Float.Ieee.{is_nan}
use Rattle.causes.specs.declared.Cause.{Cause}
use Rattle.causes.specs.declared.Cause.TheVariants.{Bounds, BlockSize, BandLimit, Parts, Nodes, TooShort}
use Rattle.causes.specs.First.{Test, refused_if, first_of}
use Rattle.model.specs.Model.{refused_by_four}
use Rattle.grid.specs.declared.Grid.{Grid}
use Rattle.grid.specs.Limits.{refused_by_one, refused_by_two, refused_by_five}
use Rattle.input.specs.declared.Input.{Input}
use Rattle.input.specs.declared.Band.{Band}
use Rattle.input.specs.declared.Lengths.{Lengths}
use Rattle.input.specs.Needed.{needed_lengths, shorter}

-- 3: a NaN for a limit of the band (rule C3)
unfoldable pub refused_by_three : Band → Bool
refused_by_three band = is_nan band.min || is_nan band.max

-- 6: one of the five slices is shorter than it has to be (rules C6 and S3)
unfoldable pub refused_by_six : Grid → Lengths → Bool
refused_by_six g l = shorter l (needed_lengths g)

-- the causes of open, in their order (rules C51 and C53)
unfoldable pub open_causes : Input → Lengths → List Test
open_causes i l =
    refused_if (refused_by_one i.grid) Bounds
    ∷ refused_if (refused_by_two i.grid) BlockSize
    ∷ refused_if (refused_by_three i.band) BandLimit
    ∷ refused_if (refused_by_four i.model) Parts
    ∷ refused_if (refused_by_five i.grid) Nodes
    ∷ refused_if (refused_by_six i.grid l) TooShort
    ∷ []

-- the refusal by the first of them that applies, if one does (rules C51 and C53)
unfoldable pub refusal_of : Input → Lengths → Result Unit Cause
refusal_of i l = first_of (open_causes i l) tt
