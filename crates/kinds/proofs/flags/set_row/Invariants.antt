-- The kinds passed so far are set.
use Rattle.std.proofs.Common.{◌≡◌}
use Rattle.kinds.specs.Inner.Tables.{table_test}
use Rattle.lists.proofs.Flags.{flagged}
use Rattle.kinds.proofs.flags.set_row.Given as goal

abbrev pub invariant-loop-i : goal.invariant-loop-i
invariant-loop-i l = l.row ≡ flagged (table_test l.xs) l.i l.initial.row
