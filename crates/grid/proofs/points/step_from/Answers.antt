-- `step_from` meets its contract.
use Rattle.grid.proofs.points.step_from.Goals as goal

pub returns : goal.returns
returns c = cc
