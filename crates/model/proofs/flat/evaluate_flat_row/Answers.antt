-- One row more, and at the end all rows.
use Rattle.std.proofs.Common.{rules, ◌≡◌, ◌∙◌, ℕ, List, Float, refl, sym, ap, arith}
use Rattle.lists.specs.Tabulate.{tabulate}
use Rattle.geometry.specs.declared.PointRow.{PointRow}
use Rattle.geometry.specs.PointRow.{point_in}
use Rattle.model.specs.Part.{part_value, placed}
use Rattle.model.specs.Flat.{flat_of, part_at, parts_of}
use Rattle.model.specs.Inner.Lanes.{lane}
use Rattle.model.specs.declared.Part.{Part}
use Rattle.model.proofs.AllRows.{rows_to, rows_turn, all_rows}
use Rattle.model.proofs.FlatParts.{placed_again, part_there, flat_rows}
use Rattle.model.proofs.flat.evaluate_flat_row.Goals as goal

-- the row of a part, from the rows before it
row_from : PointRow → List Float → (p count : ℕ) → Part → List Float
row_from points earlier p count part =
    tabulate count (λ k. let at = point_in points k in part_value part at.x at.y at.z (lane earlier k p))

pub loop-p-init : goal.loop-p-init
unfolding rows_to
loop-p-init c = refl

pub loop-p-preserved : goal.loop-p-preserved
unfolding part_at row_from
loop-p-preserved c =
    let a = c.args in
    let l = flat_of a.words.now a.numbers.now in
    let points : PointRow = record { xs = a.px.now; ys = a.py.now; zs = a.pz.now } in
    let p = c.loop-p.p in
    rows_turn (parts_of l c.min-p-end.result) c.min-lanes.result points a.values.now p (part_at l p) c.loop-p.values
    (omega arith) (omega arith) c.loop-p.invariant
    (sym (part_there l c.min-p-end.result p (omega arith))) (search rules) (search rules)
    (c.fill_part.ensures
    ∙ ap (row_from points c.split_at_mut-earlier.result.0.now p _) (ap (placed p) c.part_read.ensures ∙ sym (placed_again l p)))
    (search rules)

pub returns : goal.returns
returns c =
    let a = c.args in
    let l = flat_of a.words.now a.numbers.now in
    let points : PointRow = record { xs = a.px.now; ys = a.py.now; zs = a.pz.now } in
    let parts = c.min-p-end.result in
    let all : c.loop-p.p ≡ parts = omega arith in
    c.loop-p.invariant
    ∙ ap (rows_to (parts_of l parts) c.min-lanes.result points a.values.now) all
    ∙ all_rows (parts_of l parts) c.min-lanes.result points a.values.now (omega arith) parts
    ∙ flat_rows l points a.values.now c.min-p-end.ensures c.min-lanes.ensures
