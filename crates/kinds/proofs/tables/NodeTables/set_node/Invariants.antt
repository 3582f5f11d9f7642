-- The slabs passed so far are set.
use Rattle.std.proofs.Common.{◌≡◌, ◌*◌}
use Rattle.kinds.specs.Inner.Tables.{node_test}
use Rattle.lists.proofs.Flags.{flagged}
use Rattle.kinds.proofs.tables.NodeTables.set_node.Given as goal

abbrev pub invariant-loop-k : goal.invariant-loop-k
invariant-loop-k l = l.part ≡ flagged (node_test l.self.n l.self.xs l.self.ys l.self.zs) (l.k * (l.self.n * l.self.n)) l.initial.part
