-- `all_placed` meets its contract. The invariant: the children from j on decide.
use Rattle.std.proofs.Common.{◌≡◌, ◌-◌}
use Rattle.listing.specs.Written.{all_placed}
use Rattle.listing.proofs.writing.all_placed.Given as goal

abbrev pub invariant-loop-j : goal.invariant-loop-j
invariant-loop-j l = all_placed l.points l.size l.slices.kinds.now l.slices.places.now (l.total - l.j) l.j
    ≡ all_placed l.points l.size l.slices.kinds.now l.slices.places.now l.total 0
