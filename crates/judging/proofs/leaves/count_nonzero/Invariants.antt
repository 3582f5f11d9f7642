-- The kinds passed so far are counted.
use Rattle.std.proofs.Common.{◌≡◌, ◌≤◌, get_or}
use Rattle.lists.specs.Sums.{sum_below, bit}
use Rattle.lists.specs.Flags.{nonzero}
use Rattle.judging.proofs.leaves.count_nonzero.Given as goal

abbrev pub invariant-loop-i : goal.invariant-loop-i
invariant-loop-i l = (l.count ≤ l.i) × (l.count ≡ sum_below (λ p. bit (nonzero (get_or l.kinds p 0))) l.i)
