-- The parts that count are the model's first.
use Rattle.std.proofs.Common.{◌∙◌, ap, length, map, min, arith}
use Rattle.geometry.specs.declared.PointRow.{PointRow}
use Rattle.model.specs.Part.{part_in}
use Rattle.model.specs.Row.{evaluated_rows}
use Rattle.model.proofs.Front.{front_rows}
use Rattle.model.proofs.evaluations.evaluate_row.Goals as goal

pub returns : goal.returns
returns c =
    let a = c.args in
    let m = a.model.now in
    let parts = c.counted.result.now in
    c.fill_parts.ensures
    ∙ ap (λ (r : PointRow). evaluated_rows (map part_in parts) (length parts) c.min.result r a.values.now) c.of.ensures
    ∙ front_rows m.parts _ (min m.count 64) (omega arith) c.counted.ensures (min a.n 64) a.points.now a.values.now c.min.ensures
