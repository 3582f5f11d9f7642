-- `is_active` meets its contract.
use Rattle.grid.specs.Boxes.{active}
use Rattle.grid.proofs.boxes.is_active.Goals as goal

pub returns : goal.returns
unfolding active
returns c = cc
