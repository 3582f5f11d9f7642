-- At each turn the rows before j are padded.
use Rattle.std.proofs.Common.{◌≡◌, ◌*◌, length}
use Rattle.lists.specs.Filled.{filled}
use Rattle.dense_field.specs.Padding.{padded_at}
use Rattle.dense_field.proofs.paddings.pad_slab.Given as goal

abbrev pub invariant-loop-j : goal.invariant-loop-j
invariant-loop-j l =
    (length l.values ≡ length l.initial.values)
    × (l.values ≡ filled (l.k * (l.n.i * l.n.j)) (l.j * l.n.i) (padded_at l.n l.value l.initial.values) l.initial.values)
