-- `smoothing::neighbour_sum` meets its contract: each neighbour stands in the slice.
use Rattle.dense_field.proofs.SmoothingLaws.{neighbours_read}
use Rattle.dense_field.proofs.smoothing.neighbour_sum.Goals as goal

pub returns : goal.returns
returns c =
    neighbours_read _ _ _ c.requires
