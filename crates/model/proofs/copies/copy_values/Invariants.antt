-- The places passed hold what stands there in the other slice.
use Rattle.std.proofs.Common.{◌≡◌, get_or}
use Rattle.lists.specs.Filled.{filled}
use Rattle.model.specs.Part.{past}
use Rattle.model.proofs.copies.copy_values.Given as goal

abbrev pub invariant-loop-i : goal.invariant-loop-i
invariant-loop-i l = l.to ≡ filled 0 l.i (λ q. get_or l.from q past) l.initial.to
