-- `leaf_steps` meets its contract.
use Rattle.grid.specs.Inner.Steps.{leaf_steps}
use Rattle.grid.proofs.points.leaf_steps.Goals as goal

pub returns : goal.returns
unfolding leaf_steps
returns c = cc
