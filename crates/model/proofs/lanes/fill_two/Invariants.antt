-- The lanes passed so far hold what the operation makes of two earlier rows.
use Rattle.std.proofs.Common.{◌≡◌, get_or}
use Rattle.lists.specs.Filled.{filled}
use Rattle.model.specs.Part.{past}
use Rattle.model.proofs.lanes.fill_two.Given as goal

abbrev pub invariant-loop-i : goal.invariant-loop-i
invariant-loop-i g l = l.row ≡ filled 0 l.i (λ k. g.O.Operation.of (get_or l.a k past) (get_or l.b k past)) l.initial.row
