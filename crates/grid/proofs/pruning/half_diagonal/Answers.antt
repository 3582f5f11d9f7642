-- `half_diagonal` meets its contract.
use Rattle.grid.specs.Pruning.{half_diagonal}
use Rattle.geometry.proofs.Literals.{two_point}
use Rattle.grid.proofs.pruning.half_diagonal.Goals as goal

pub returns : goal.returns
unfolding half_diagonal
returns c = cc two_point
