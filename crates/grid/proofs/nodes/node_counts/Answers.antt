-- `node_counts` meets its contract.
use Rattle.grid.specs.Nodes.{node_counts}
use Rattle.grid.proofs.nodes.node_counts.Goals as goal

pub returns : goal.returns
unfolding node_counts
returns c = cc
