-- At each turn the first j rows are smoothed.
use Rattle.std.proofs.Common.{◌≡◌, ◌*◌, length}
use Rattle.lists.specs.Filled.{filled}
use Rattle.dense_field.specs.Smoothing.{smoothed_at}
use Rattle.dense_field.proofs.smoothing.Round.smooth_slab.Given as goal

abbrev pub invariant-loop-j : goal.invariant-loop-j
invariant-loop-j l =
    (length l.new ≡ length l.initial.new)
    × (l.new ≡ filled (l.k * (l.self.n.i * l.self.n.j)) (l.j * l.self.n.i) (smoothed_at l.self.n l.self.factor l.self.old.now) l.initial.new)
