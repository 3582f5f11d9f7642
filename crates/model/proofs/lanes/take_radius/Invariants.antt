-- The lanes passed so far have lost the radius.
use Rattle.std.proofs.Common.{◌≡◌, get_or}
use Rattle.lists.specs.Filled.{filled}
use lib.Ieee.{binary64, sub}
use Rattle.model.specs.Part.{past}
use Rattle.model.proofs.lanes.take_radius.Given as goal

abbrev pub invariant-loop-i : goal.invariant-loop-i
invariant-loop-i l = l.row ≡ filled 0 l.i (λ k. sub binary64 (get_or l.initial.row k past) l.r) l.initial.row
