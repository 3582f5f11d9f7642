-- The kinds passed so far are right.
use Rattle.std.proofs.Common.{◌≡◌, true, take}
use Rattle.lists.specs.Flags.{agrees_from}
use Rattle.kinds.specs.Inner.Tables.{table_test}
use Rattle.kinds.proofs.agreement.row_right.Given as goal

abbrev pub invariant-loop-i : goal.invariant-loop-i
invariant-loop-i l = agrees_from (table_test l.xs) 0 (take l.i l.row) ≡ true
