-- The last row is the model's, and without parts the value is +0.
use Rattle.std.proofs.Common.{rules, refl, ◌≡◌, ◌∙◌, min, sym, arith}
use Rattle.lists.proofs.LentPart.{front_set, front_copy}
use Rattle.geometry.specs.declared.PointRow.{PointRow}
use Rattle.model.specs.Part.{past}
use Rattle.model.specs.Flat.{flat_of, parts_of}
use Rattle.model.proofs.AllRows.{row_of_last, row_of_none}
use Rattle.model.proofs.FlatParts.{flat_rows, flat_row}
use Rattle.model.proofs.flat.evaluate_flat_row_into.Goals as goal

pub returns-then-count-eq0-clause-results : goal.returns-then-count-eq0-clause-results
returns-then-count-eq0-clause-results c =
    let a = c.args in
    let l = flat_of a.words.now a.numbers.now in
    let points : PointRow = record { xs = a.px.now; ys = a.py.now; zs = a.pz.now } in
    let none : min a.count 64 ≡ 0 = omega (arith, c.if-count-eq0.true) in
    row_of_none (parts_of l (min a.count 64)) (min a.count 64) _ points a.values.now a.results.now
    none (front_set _ a.results.now past (search rules) _ (search rules))
    ∙ flat_row l points a.results.now refl c.min-lanes.ensures

pub returns-clause-results : goal.returns-clause-results
returns-clause-results c =
    let a = c.args in
    let l = flat_of a.words.now a.numbers.now in
    let points : PointRow = record { xs = a.px.now; ys = a.py.now; zs = a.pz.now } in
    let cut = c.min.ensures in
    row_of_last (parts_of l c.min.result) c.min.result c.min-lanes.result points a.values.now a.results.now
    (omega arith) (omega arith)
    (c.evaluate_flat_row.ensures ∙ sym (flat_rows l points a.values.now cut c.min-lanes.ensures))
    (search rules) c.row_of.ensures.lanes
    (front_copy _ a.results.now past (omega arith) _ _ c.copy_values.ensures c.row_of.ensures.long (λ k h. refl))
    ∙ flat_row l points a.results.now cut c.min-lanes.ensures
