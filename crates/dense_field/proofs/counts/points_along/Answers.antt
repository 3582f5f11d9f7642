-- `counts::points_along` meets its contract: one point more than the steps.
use Rattle.std.proofs.Common.{ap, arith}
use lib.Ieee.{to_unsigned}
use Rattle.dense_field.specs.Points.{points_along}
use Rattle.dense_field.proofs.counts.points_along.Goals as goal

pub returns : goal.returns
unfolding points_along
returns c = omega (arith, c.small_count.ensures, ap (to_unsigned 64) c.floor.ensures)
