-- The children tested so far are in the table.
use Rattle.std.proofs.Common.{◌≡◌, ℕ, ◌<◌, false, length, get_or}
use Rattle.grid.specs.Inner.Activity.{axis_active}
use Rattle.kinds.proofs.tables.axis_table.Given as goal

abbrev pub invariant-loop-c : goal.invariant-loop-c
invariant-loop-c l = (length l.table ≡ 64) × ((q : ℕ) → q < l.c → get_or l.table q false ≡ axis_active l.axis.least l.axis.most l.axis.size l.axis.n l.fn.i q)
