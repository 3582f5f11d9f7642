-- The nodes passed so far are set.
use Rattle.std.proofs.Common.{◌≡◌, ◌*◌}
use Rattle.grid.specs.Boxes.{active}
use Rattle.lists.specs.Flags.{in_rows}
use Rattle.lists.proofs.Flags.{flagged}
use Rattle.kinds.proofs.flags.set_nodes.Given as goal

abbrev pub invariant-loop-v : goal.invariant-loop-v
invariant-loop-v l = l.kinds ≡ flagged (in_rows l.children (active l.g.grid)) (l.v * l.children) l.initial.kinds
