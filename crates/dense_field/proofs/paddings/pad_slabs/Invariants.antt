-- At each turn the slabs before k are padded.
use Rattle.std.proofs.Common.{◌≡◌, ◌*◌, length}
use Rattle.lists.specs.Filled.{filled}
use Rattle.dense_field.specs.Padding.{padded_at}
use Rattle.dense_field.proofs.paddings.pad_slabs.Given as goal

abbrev pub invariant-loop-k : goal.invariant-loop-k
invariant-loop-k l =
    (length l.values ≡ length l.initial.values)
    × (l.values ≡ filled 0 (l.k * (l.n.i * l.n.j)) (padded_at l.n l.value l.initial.values) l.initial.values)
