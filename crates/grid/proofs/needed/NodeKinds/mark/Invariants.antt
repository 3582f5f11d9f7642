-- The rows passed so far are marked.
use Rattle.std.proofs.Common.{◌≡◌, ◌*◌, length}
use Rattle.grid.specs.Inner.CornerMarks.{Marks}
use Rattle.grid.proofs.needed.NodeKinds.mark.Given as goal

abbrev pub invariant-loop-row : goal.invariant-loop-row
invariant-loop-row l = (length l.list ≡ length l.initial.list) × Marks l.self.n l.self.kinds.now (l.row * l.self.n) l.list
