-- The slabs passed so far are right.
use Rattle.std.proofs.Common.{◌≡◌, ◌*◌, true, take}
use Rattle.lists.specs.Flags.{agrees_from}
use Rattle.kinds.specs.Inner.Tables.{node_test}
use Rattle.kinds.proofs.tables.NodeTables.node_right.Given as goal

abbrev pub invariant-loop-k : goal.invariant-loop-k
invariant-loop-k l = agrees_from (node_test l.self.n l.self.xs l.self.ys l.self.zs) 0 (take (l.k * (l.self.n * l.self.n)) l.part) ≡ true
