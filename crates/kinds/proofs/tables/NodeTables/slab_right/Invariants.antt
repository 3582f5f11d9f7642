-- The rows passed so far are right.
use Rattle.std.proofs.Common.{◌≡◌, ◌*◌, true, take}
use Rattle.lists.specs.Flags.{agrees_from}
use Rattle.kinds.specs.Inner.Tables.{slab_test}
use Rattle.kinds.proofs.tables.NodeTables.slab_right.Given as goal

abbrev pub invariant-loop-j : goal.invariant-loop-j
invariant-loop-j l = agrees_from (slab_test l.self.n l.self.xs l.self.ys) 0 (take (l.j * l.self.n) l.slab) ≡ true
