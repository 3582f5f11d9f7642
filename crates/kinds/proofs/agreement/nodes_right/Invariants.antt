-- The nodes passed so far are right.
use Rattle.std.proofs.Common.{◌≡◌, ◌*◌, true, take}
use Rattle.grid.specs.Boxes.{active}
use Rattle.lists.specs.Flags.{agrees_from, in_rows}
use Rattle.kinds.proofs.agreement.nodes_right.Given as goal

abbrev pub invariant-loop-v : goal.invariant-loop-v
invariant-loop-v l = agrees_from (in_rows l.children (active l.g.grid)) 0 (take (l.v * l.children) l.kinds) ≡ true
