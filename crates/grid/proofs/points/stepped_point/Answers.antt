-- `stepped_point` meets its contract.
use Rattle.grid.specs.Inner.Steps.{stepped_point}
use Rattle.grid.proofs.points.stepped_point.Goals as goal

pub returns : goal.returns
unfolding stepped_point
returns c = cc
