-- The code's 1 is the definition's.
use Rattle.std.proofs.Common.{◌∙◌, ap₂}
use lib.Ieee.{binary64, add}
use Rattle.dense_field.specs.Octets.{corner_index}
use Rattle.dense_field.proofs.SmoothingLaws.{one_as_float}
use Rattle.dense_field.proofs.octets.after.Goals as goal

pub returns : goal.returns
unfolding corner_index
returns c = c.computed.ensures ∙ ap₂ (add binary64) c.from_count.ensures one_as_float
