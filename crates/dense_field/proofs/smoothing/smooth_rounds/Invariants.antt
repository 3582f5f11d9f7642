-- At each turn two rounds more are done.
use Rattle.std.proofs.Common.{◌≡◌, ◌*◌, length}
use Rattle.dense_field.specs.Smoothing.{smoothed}
use Rattle.dense_field.proofs.smoothing.smooth_rounds.Given as goal

abbrev pub invariant-loop : goal.invariant-loop
invariant-loop l =
    (length l.values ≡ length l.initial.values) × (length l.scratch ≡ length l.initial.scratch)
    × (l.values ≡ smoothed l.n l.factor (2 * l.counter) l.initial.values)
