-- What is left to be made of the rest comes to the whole.
use Rattle.std.proofs.Common.{◌≡◌, drop}
use Rattle.grid.specs.Pruning.{folded, from_first}
use Rattle.grid.proofs.pruning.folded.Given as goal

abbrev pub invariant-loop-value : goal.invariant-loop-value
invariant-loop-value g l = folded g.O.Operation.of l.found (drop l.value-index l.value-items) ≡ from_first g.O.Operation.of l.fn.octet
