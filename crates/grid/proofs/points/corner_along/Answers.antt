-- `corner_along` meets its contract.
use Rattle.grid.proofs.points.corner_along.Goals as goal

pub returns : goal.returns
returns c = cc
