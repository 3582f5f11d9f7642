-- At each turn the first t places are set.
use Rattle.std.proofs.Common.{◌≡◌, ◌+◌, ◌-◌, length}
use Rattle.lists.specs.Filled.{filled}
use Rattle.dense_field.specs.Inner.Runs.{axis_point}
use Rattle.dense_field.proofs.sampling.fill_along.Given as goal

abbrev pub invariant-loop-t : goal.invariant-loop-t
invariant-loop-t l =
    (length l.places ≡ length l.initial.places)
    × (l.places ≡ filled l.at l.t (λ q. axis_point l.origin l.cell (l.from + (q - l.at))) l.initial.places)
