-- `is_finite` meets its contract: 1 / 0 and -1 / 0 are the infinities.
use Rattle.std.proofs.Common.{◌∙◌}
use lib.Ieee.{div, neg, of_bits}
use Rattle.float.proofs.Finite.{above_lowest, lowest}
use Rattle.float.proofs.class.is_finite.Goals as goal

pub returns-then-x : goal.returns-then-x
unfolding div neg of_bits
returns-then-x c = above_lowest _ c.if-x.true

pub returns-else-x : goal.returns-else-x
unfolding div neg of_bits
returns-else-x c = c.if-x.false ∙ lowest _ c.if-x.false
