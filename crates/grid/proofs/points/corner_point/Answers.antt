-- `corner_point` meets its contract.
use Rattle.grid.specs.Corners.{corner_point}
use Rattle.grid.specs.Inner.Steps.{corner_at}
use Rattle.grid.proofs.points.corner_point.Goals as goal

pub returns : goal.returns
unfolding corner_point corner_at
returns c = cc
