-- The parts that count are the model's first. The last row is the model's, and without parts the value is +0.
use Rattle.std.proofs.Common.{rules, refl, ◌∙◌, ap, min, map, length, arith}
use Rattle.lists.proofs.LentPart.{front_set, front_copy}
use Rattle.geometry.specs.declared.PointRow.{PointRow}
use Rattle.model.specs.Part.{past, part_in}
use Rattle.model.specs.Row.{evaluated_rows}
use Rattle.model.proofs.Front.{front_rows, front_row}
use Rattle.model.proofs.AllRows.{row_of_last, row_of_none}
use Rattle.model.proofs.evaluations.evaluate_row_into.Goals as goal

pub returns-then-count-eq0-clause-values : goal.returns-then-count-eq0-clause-values
returns-then-count-eq0-clause-values c =
    let a = c.args in
    let m = a.model.now in
    let parts = c.counted-parts.result.now in
    c.fill_parts.ensures
    ∙ ap (λ (r : PointRow). evaluated_rows (map part_in parts) (length parts) c.min-lanes.result r a.values.now) c.of.ensures
    ∙ front_rows m.parts _ (min m.count 64) (omega arith) c.counted-parts.ensures (min a.n 64) a.points.now a.values.now c.min-lanes.ensures

pub returns-then-count-eq0-clause-results : goal.returns-then-count-eq0-clause-results
returns-then-count-eq0-clause-results c =
    let a = c.args in
    let m = a.model.now in
    row_of_none _ _ _ a.points.now a.values.now a.results.now
    c.if-count-eq0.true (front_set _ a.results.now past (search rules) _ (search rules))
    ∙ front_row m.parts _ (min m.count 64) (omega arith) c.counted-parts.ensures (min a.n 64) a.points.now a.results.now c.min-lanes.ensures

pub returns-clause-values : goal.returns-clause-values
returns-clause-values c =
    let a = c.args in
    let m = a.model.now in
    let parts = c.counted-parts.result.now in
    c.fill_parts.ensures
    ∙ ap (λ (r : PointRow). evaluated_rows (map part_in parts) (length parts) c.min-lanes.result r a.values.now) c.of.ensures
    ∙ front_rows m.parts _ (min m.count 64) (omega arith) c.counted-parts.ensures (min a.n 64) a.points.now a.values.now c.min-lanes.ensures

pub returns-clause-results : goal.returns-clause-results
returns-clause-results c =
    let a = c.args in
    let m = a.model.now in
    let parts = c.counted-parts.result.now in
    row_of_last (map part_in parts) (length parts) c.min-lanes.result a.points.now a.values.now a.results.now
    (omega arith) (omega arith)
    (c.fill_parts.ensures
    ∙ ap (λ (r : PointRow). evaluated_rows (map part_in parts) (length parts) c.min-lanes.result r a.values.now) c.of.ensures)
    (search rules) c.row_of.ensures.lanes
    (front_copy _ a.results.now past (omega arith) _ _ c.copy_values.ensures c.row_of.ensures.long (λ k h. refl))
    ∙ front_row m.parts _ (min m.count 64) (omega arith) c.counted-parts.ensures (min a.n 64) a.points.now a.results.now c.min-lanes.ensures
