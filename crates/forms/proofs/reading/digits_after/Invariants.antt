-- `digits_after` meets its contract. The invariant: what is left to read gives what the whole gives, and the number is not above the limit.
use Rattle.std.proofs.Common.{◌≡◌, ◌≤◌, length}
use Rattle.forms.specs.Fronts.{decimal_after}
use Rattle.forms.proofs.reading.digits_after.Given as goal

abbrev pub invariant-loop-b : goal.invariant-loop-b
invariant-loop-b l = record {
  whole : decimal_after l.limit l.value l.rest ≡ decimal_after l.limit l.first l.text;
  within : l.value ≤ l.limit;
}

abbrev pub decreases-loop-b : goal.decreases-loop-b
decreases-loop-b l = length l.rest
