-- The values passed so far are those at the first places.
use Rattle.std.proofs.Common.{◌≡◌, get_or}
use lib.Ieee.{nan}
use Rattle.lists.specs.Filled.{filled}
use Rattle.grid.proofs.points.octet_values.Given as goal

abbrev pub invariant-loop-q : goal.invariant-loop-q
invariant-loop-q l = l.eight ≡ filled 0 l.q (λ q. get_or l.values (get_or l.places q 0) nan) l.initial.eight
