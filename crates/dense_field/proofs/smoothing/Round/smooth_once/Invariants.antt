-- At each turn the first k slabs are smoothed.
use Rattle.std.proofs.Common.{◌≡◌, ◌*◌, length}
use Rattle.lists.specs.Filled.{filled}
use Rattle.dense_field.specs.Smoothing.{smoothed_at}
use Rattle.dense_field.proofs.smoothing.Round.smooth_once.Given as goal

abbrev pub invariant-loop-k : goal.invariant-loop-k
invariant-loop-k l =
    (length l.new ≡ length l.initial.new)
    × (l.new ≡ filled 0 (l.k * (l.self.n.i * l.self.n.j)) (smoothed_at l.self.n l.self.factor l.self.old.now) l.initial.new)
