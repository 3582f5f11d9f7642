-- `average` meets its contract: the eight elements one after the other.
use Rattle.grid.proofs.Folds.{mean}
use Rattle.std.proofs.Common.{◌∙◌, rules}
use lib.Ieee.{nan}
use Rattle.grid.proofs.pruning.average.Goals as goal

pub returns : goal.returns
returns c = c.computed.ensures ∙ mean nan _ (search rules)
