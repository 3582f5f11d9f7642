-- The nodes passed so far are counted.
use Rattle.std.proofs.Common.{◌≡◌}
use Rattle.grid.specs.Inner.Activity.{axis_total}
use Rattle.grid.proofs.axes.Axis.total.Given as goal

abbrev pub invariant-loop-i : goal.invariant-loop-i
invariant-loop-i l = l.total ≡ axis_total l.self.least l.self.most l.self.size l.self.n l.i
