-- `child_box_at` meets its contract: each end on each axis is its own call.
use Rattle.grid.specs.Boxes.{child_box_at}
use Rattle.grid.proofs.boxes.child_box_at.Goals as goal

pub returns : goal.returns
unfolding child_box_at
returns c = cc
