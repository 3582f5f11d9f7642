-- `child_box` meets its contract.
use Rattle.grid.specs.Boxes.{child_box}
use Rattle.grid.proofs.boxes.child_box.Goals as goal

pub returns : goal.returns
unfolding child_box
returns c = cc
