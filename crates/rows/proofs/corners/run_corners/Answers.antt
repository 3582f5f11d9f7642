-- A row more: its corners listed, their points placed, the values stored.
use Rattle.std.proofs.Common.{◌≡◌, ℕ, min, ◌≤◌, Float, List, length, take, get_or, refl, sym, ◌∙◌, inl, inr, subst, arith}
use mathlib.Core.Logic.{⊎_elim}
use lib.Seq.{length-take-le}
use Rattle.geometry.specs.declared.Vec3.{Vec3}
use Rattle.geometry.specs.declared.BoundingBox.{BoundingBox}
use Rattle.geometry.specs.declared.PointRow.{PointRow}
use Rattle.geometry.specs.PointRow.{with_points}
use Rattle.geometry.specs.Values.{at}
use Rattle.grid.specs.Corners.{corner_point}
use Rattle.model.specs.Model.{parts_in}
use Rattle.model.specs.Row.{model_row}
use Rattle.model.specs.declared.ImplicitModel.{ImplicitModel}
use Rattle.rows.specs.Inner.ModelValue.{model_at}
use Rattle.rows.specs.Inner.Written.{scattered, written}
use Rattle.rows.proofs.RowValues.{Row, row_new, RowMade, row_value, row_kept}
use Rattle.rows.proofs.Running.{ran_none, gathered_below, row_ran, row_ended, row_less}
use Rattle.rows.proofs.Writing.{scattered_all}
use Rattle.rows.proofs.corners.run_corners.Goals as goal

-- where the corners of a list stand, and a corner's value
abbrev point : BoundingBox → ℕ → List ℕ → ℕ → Vec3
point b n list q = corner_point b n (get_or list q 0)

abbrev value : ImplicitModel → BoundingBox → ℕ → ℕ → Float
value m b n p = at (model_at m) (corner_point b n p)

-- a row of the corners that a search found: its points are written to as many places as the list has,
-- and its values are stored at their corners
module _ (m : ImplicitModel) (b : BoundingBox) (n count : ℕ) (list : List ℕ) (few : count ≤ 64) (long : length list ≡ 64)
    {old new : PointRow} {values results : List Float} (row : Row old values)
    (points_made : new ≡ with_points (length (take count list)) (point b n (take count list)) old)
    (values_made : results ≡ model_row (parts_in m) (min m.count 64) (min count 64) new values) where
  count_is : length (take count list) ≡ count
  count_is = length-take-le count list (omega arith)

  made : RowMade m count (point b n (take count list)) old values new results
  made = record {
    points_made = subst (λ k. new ≡ with_points k (point b n (take count list)) old) count_is points_made;
    values_made = values_made;
  }

  kept : Row new results
  kept = row_kept made row

  stored : (l : List Float) → scattered (length (take count list)) (take count list) results l ≡ written (value m b n) (take count list) l
  stored l =
      scattered_all (value m b n) (take count list) results l (length (take count list))
      (λ q h. row_value made row few q (omega (arith, count_is))) refl

pub loop-next-init : goal.loop-next-init
loop-next-init c =
    record { within = omega (arith, c.cube_of-total.ensures); listed = refl; row = rw c.new-row.ensures row_new; long = refl; ran = ran_none _ _ _ _ _ }

pub scatter-requires : goal.scatter-requires
scatter-requires c =
    let found = c.gather-found in
    let few : found.result.count ≤ 64 = omega (arith, found.ensures.few, c.allowed.ensures) in
    let count_is = length-take-le found.result.count found.new.list (omega (arith, c.evaluate_row_into.array_long3)) in
    (omega (arith, count_is), λ q h. omega (arith, gathered_below _ found.ensures q h, c.requires.0, c.loop-next.invariant.long))

pub returns-then-next-total : goal.returns-then-next-total
returns-then-next-total c =
    let found = c.gather-found.ensures in
    let stored = stored c.args.model.now c.args.b c.args.node.now.n c.gather-found.result.count c.gather-found.new.list (omega (arith, found.few, c.allowed.ensures)) (omega (arith, c.gather-found.auto.list, c.loop-next.invariant.listed)) c.loop-next.invariant.row c.corner_points.ensures c.evaluate_row_into.ensures.results c.loop-next.corners in
    row_ended _ _ c.loop-next.invariant.ran found c.allowed.ensures (c.scatter.ensures ∙ stored) (inl (c.if-next-total.true ∙ c.cube_of-total.ensures))

pub returns-then-left-eq0 : goal.returns-then-left-eq0
returns-then-left-eq0 c =
    let found = c.gather-found.ensures in
    let stored = stored c.args.model.now c.args.b c.args.node.now.n c.gather-found.result.count c.gather-found.new.list (omega (arith, found.few, c.allowed.ensures)) (omega (arith, c.gather-found.auto.list, c.loop-next.invariant.listed)) c.loop-next.invariant.row c.corner_points.ensures c.evaluate_row_into.ensures.results c.loop-next.corners in
    row_ended _ _ c.loop-next.invariant.ran found c.allowed.ensures (c.scatter.ensures ∙ stored) (⊎_elim inl (λ w. inr (c.if-left-eq0.true, w.1)) found.stops)

pub loop-next-preserved : goal.loop-next-preserved
loop-next-preserved c =
    let found = c.gather-found.ensures in
    let few : c.gather-found.result.count ≤ 64 = omega (arith, found.few, c.allowed.ensures) in
    let listed : length c.gather-found.new.list ≡ 64 = omega (arith, c.gather-found.auto.list, c.loop-next.invariant.listed) in
    let stored = stored c.args.model.now c.args.b c.args.node.now.n c.gather-found.result.count c.gather-found.new.list few listed c.loop-next.invariant.row c.corner_points.ensures c.evaluate_row_into.ensures.results c.loop-next.corners in
    record {
      within = omega (arith, found.within, c.cube_of-total.ensures);
      listed = listed;
      row = kept c.args.model.now c.args.b c.args.node.now.n c.gather-found.result.count c.gather-found.new.list few listed c.loop-next.invariant.row c.corner_points.ensures c.evaluate_row_into.ensures.results;
      long = omega (arith, c.scatter.auto.corners, c.loop-next.invariant.long);
      ran = row_ran _ _ c.loop-next.invariant.ran found c.allowed.ensures (c.scatter.ensures ∙ stored);
    }

pub loop-next-smaller : goal.loop-next-smaller
loop-next-smaller c =
    row_less _ _ c.loop-next.invariant.ran c.gather-found.ensures c.allowed.ensures
    (λ e. c.if-next-total.false (e ∙ sym c.cube_of-total.ensures)) c.if-left-eq0.false
