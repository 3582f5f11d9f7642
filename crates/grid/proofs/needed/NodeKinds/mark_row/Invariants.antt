-- The children of the row passed so far are marked, after all those of the rows before.
use Rattle.std.proofs.Common.{◌≡◌, ◌+◌, ◌*◌, length}
use Rattle.grid.specs.Inner.CornerMarks.{Marks}
use Rattle.grid.proofs.needed.NodeKinds.mark_row.Given as goal

abbrev pub invariant-loop-i : goal.invariant-loop-i
invariant-loop-i l = (length l.list ≡ length l.initial.list) × Marks l.self.n l.self.kinds.now (l.row * l.self.n + l.i) l.list
