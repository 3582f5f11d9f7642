-- The rows of the parts passed so far are filled.
use Rattle.std.proofs.Common.{◌≡◌}
use Rattle.model.specs.Flat.{flat_of, parts_of}
use Rattle.model.proofs.AllRows.{rows_to}
use Rattle.model.proofs.flat.evaluate_flat_row.Given as goal

abbrev pub invariant-loop-p : goal.invariant-loop-p
invariant-loop-p l =
    l.values
    ≡ rows_to (parts_of (flat_of l.words l.numbers) l.p-end) l.lanes (record { xs = l.px; ys = l.py; zs = l.pz }) l.initial.values l.p
