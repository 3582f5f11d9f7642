-- `corner_at` meets its contract.
use Rattle.grid.specs.Inner.Steps.{corner_at}
use Rattle.grid.proofs.points.corner_at.Goals as goal

pub returns : goal.returns
unfolding corner_at
returns c = cc
