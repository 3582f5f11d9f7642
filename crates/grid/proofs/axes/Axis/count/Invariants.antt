-- The children passed so far are counted.
use Rattle.std.proofs.Common.{◌≡◌}
use Rattle.lists.specs.Ranges.{count_below}
use Rattle.grid.specs.Inner.Activity.{axis_active}
use Rattle.grid.proofs.axes.Axis.count.Given as goal

abbrev pub invariant-loop-c : goal.invariant-loop-c
invariant-loop-c l = l.count ≡ count_below l.c (axis_active l.fn.self.least l.fn.self.most l.fn.self.size l.fn.self.n l.fn.i)
