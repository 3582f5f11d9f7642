-- `node_most` meets its contract.
use Rattle.grid.specs.Boxes.{node_most}
use Rattle.grid.proofs.boxes.node_most.Goals as goal

pub returns : goal.returns
unfolding node_most
returns c = cc
