-- The rows passed so far are set.
use Rattle.std.proofs.Common.{◌≡◌, ◌*◌}
use Rattle.kinds.specs.Inner.Tables.{slab_test}
use Rattle.lists.proofs.Flags.{flagged}
use Rattle.kinds.proofs.tables.NodeTables.set_slab.Given as goal

abbrev pub invariant-loop-j : goal.invariant-loop-j
invariant-loop-j l = l.slab ≡ flagged (slab_test l.self.n l.self.xs l.self.ys) (l.j * l.self.n) l.initial.slab
