-- `node_box_at` meets its contract: each end on each axis is its own call.
use Rattle.grid.specs.Boxes.{node_box_at}
use Rattle.grid.proofs.boxes.node_box_at.Goals as goal

pub returns : goal.returns
unfolding node_box_at
returns c = cc
