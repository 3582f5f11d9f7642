-- The rows of the parts passed so far are filled.
use Rattle.std.proofs.Common.{◌≡◌, map}
use Rattle.model.specs.Part.{part_in}
use Rattle.model.specs.Inner.Lanes.{points_lent}
use Rattle.model.proofs.AllRows.{rows_to}
use Rattle.model.proofs.row.fill_parts.Given as goal

abbrev pub invariant-loop-p : goal.invariant-loop-p
invariant-loop-p l = l.values ≡ rows_to (map part_in l.parts) l.n (points_lent l.points) l.initial.values l.p
