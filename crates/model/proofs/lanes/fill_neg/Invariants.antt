-- The lanes passed so far hold an earlier row negated.
use Rattle.std.proofs.Common.{◌≡◌, get_or}
use Rattle.lists.specs.Filled.{filled}
use lib.Ieee.{neg}
use Rattle.model.specs.Part.{past}
use Rattle.model.proofs.lanes.fill_neg.Given as goal

abbrev pub invariant-loop-i : goal.invariant-loop-i
invariant-loop-i l = l.row ≡ filled 0 l.i (λ k. neg (get_or l.a k past)) l.initial.row
