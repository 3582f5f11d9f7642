-- One row more, and at the end all rows.
use Rattle.std.proofs.Common.{rules, ◌≡◌, ◌∙◌, refl, sym, ap, arith, length, map}
use Rattle.std.proofs.lemmas.List.{get_or-map}
use Rattle.model.specs.Part.{part_in}
use Rattle.model.specs.Inner.Lanes.{points_lent}
use Rattle.model.proofs.AllRows.{rows_to, rows_turn, all_rows}
use Rattle.model.proofs.row.fill_parts.Goals as goal

pub loop-p-init : goal.loop-p-init
unfolding rows_to
loop-p-init c = refl

pub loop-p-preserved : goal.loop-p-preserved
loop-p-preserved c =
    let a = c.args in
    let p = c.loop-p.p in
    rows_turn (map part_in a.parts.now) a.n (points_lent a.points.now) a.values.now p _ c.loop-p.values (omega arith) (omega arith) c.loop-p.invariant
    (sym (get_or-map part_in a.parts.now p _ _ (omega arith))) (search rules) (search rules) c.fill_part.ensures (search rules)

pub returns : goal.returns
returns c =
    let a = c.args in
    let l = map part_in a.parts.now in
    let all : c.loop-p.p ≡ length a.parts.now = omega arith in
    c.loop-p.invariant
    ∙ ap (rows_to l a.n (points_lent a.points.now) a.values.now) all
    ∙ all_rows l a.n (points_lent a.points.now) a.values.now (omega arith) (length a.parts.now)
