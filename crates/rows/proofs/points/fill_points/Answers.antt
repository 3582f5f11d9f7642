-- A row more is made, and at the end all points are the leaf's.
use Rattle.std.proofs.Common.{◌≡◌, ℕ, min, ◌+◌, ◌-◌, ◌≤◌, Float, length, take, refl, sym, ap, ◌∙◌, arith}
use lib.Seq.{get_or-take, length-take-le}
use Rattle.lists.proofs.Filling.{filled_none, filled_length, filled_more, filled_same, filled_done}
use Rattle.lists.proofs.LentPart.{lent_copy}
use Rattle.geometry.specs.declared.PointRow.{PointRow}
use Rattle.geometry.specs.Values.{at}
use Rattle.grid.specs.Blocks.{cube}
use Rattle.grid.specs.Leaves.{leaf_point}
use Rattle.model.specs.Part.{past}
use Rattle.rows.specs.Inner.Axes.{axes_point}
use Rattle.rows.specs.Inner.ModelValue.{model_at}
use Rattle.rows.proofs.AxesLaws.{axes_leaf}
use Rattle.rows.proofs.RowValues.{row_new, RowMade, row_value, row_kept}
use Rattle.rows.proofs.points.fill_points.Goals as goal

pub loop-t-init : goal.loop-t-init
loop-t-init c = record { within = omega arith; row = rw c.new-row.ensures row_new; long = refl; made = sym (filled_none _ _ _) }

pub loop-t-preserved : goal.loop-t-preserved
loop-t-preserved c =
    let a = c.args in
    let l = c.loop-t in
    let n = c.allowed-n.result in
    let from = a.p + l.t in
    let axes = c.leaf_axes-axes.result in
    let value : ℕ → Float = λ q. at (model_at a.model.now) (axes_point a.l axes q) in
    let counted = c.allowed-n.ensures in
    let ends : a.p + c.allowed-made.result ≤ cube a.l =
    omega (arith, c.allowed-made.ensures, ap (λ k. min a.budget (k - a.p)) c.cube_of.ensures, c.requires.2) in
    let few : n ≤ 64 = omega (arith, counted) in
    let within : l.t + n ≤ c.allowed-made.result = omega (arith, counted) in
    let made : RowMade a.model.now n (λ q. axes_point a.l axes (from + q)) l.row l.values c.place_points.new.row c.evaluate_row_into.new.results =
    record { points_made = c.place_points.ensures; values_made = c.evaluate_row_into.ensures.results } in
    let results = c.evaluate_row_into.new.results in
    let long = row_kept made l.invariant.row in
    let copied =
    lent_copy from n l.stretch past (omega (arith, l.invariant.long, c.requires.3, ends)) value (from + n) (take n results) refl c.copy_from_slice.ensures.after
    (length-take-le n results (omega (arith, long.values_long)))
    (λ k h. get_or-take n results k past h ∙ row_value made l.invariant.row few k h) in
    let next = filled_more a.p l.t n value a.stretch.now l.invariant.made copied refl in
    record { within = within; row = long; long = ap length next ∙ filled_length _ _ _ _; made = next }

pub returns-clause-stretch : goal.returns-clause-stretch
returns-clause-stretch c =
    let a = c.args in
    let value = at (model_at a.model.now) in
    let made_is : c.allowed-made.result ≡ min a.budget (cube a.l - a.p) = c.allowed-made.ensures ∙ ap (λ n. min a.budget (n - a.p)) c.cube_of.ensures in
    let done : c.loop-t.t ≡ c.allowed-made.result = omega (arith, c.loop-t.invariant.within) in
    filled_done a.p (λ q. value (leaf_point a.b a.l q)) a.stretch.now
    (c.loop-t.invariant.made
    ∙ filled_same a.p c.loop-t.t _ _ a.stretch.now
    (λ q low below.
    ap (λ (axes : PointRow). value (axes_point a.l axes q)) c.leaf_axes-axes.ensures
    ∙ ap value (axes_leaf a.b a.l c.requires.0 c.requires.1 q (omega (arith, made_is, c.requires.2)))))
    (done ∙ made_is)
