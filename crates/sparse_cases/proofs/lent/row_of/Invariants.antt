-- A number for each element so far.
use Rattle.std.proofs.Common.{◌≡◌, length}
use Rattle.sparse_cases.proofs.lent.row_of.Given as goal

abbrev pub invariant-loop-element : goal.invariant-loop-element
invariant-loop-element g l = length l.row.numbers.items ≡ l.element-index
