-- The nonzero kinds before a place are the active children.
use Rattle.std.proofs.Common.{◌≡◌, ℕ, ◌+◌, ◌*◌, sym, ap, subst, ◌∙◌, true, arith}
use lib.Seq.{length-take-le}
use Rattle.schedule.specs.declared.Cursor.{Cursor}
use Rattle.schedule.specs.declared.Cursor.TheVariants.{Corner, Point}
use Rattle.schedule.specs.Totals.{active_up_to}
use Rattle.schedule.specs.Possible.{valid_cursor}
use Rattle.grid.specs.Blocks.{cube}
use Rattle.plans.specs.Inner.GridPlan.{grid_plan}
use Rattle.plans.proofs.Plans.{active_all_lem}
use Rattle.judging.specs.declared.judged.RightKinds.{RightKinds}
use Rattle.judging.proofs.Judgement.{UpTo, corner_up_to, point_up_to}
use Rattle.judging.proofs.judged.RightKinds.active_up_to.Goals as goal

module _ (r : RightKinds) (y : Cursor) (valid : valid_cursor (grid_plan r.grid.grid) y ≡ true) {n : ℕ} (e : n ≡ cube r.grid.grid.inner) (v : ℕ) where
  -- the children before a corner's node
  at_corner : (q : ℕ) → y ≡ Corner v q → UpTo (grid_plan r.grid.grid) r.kinds.now (v * n) y
  at_corner q is =
      let P = grid_plan r.grid.grid in
      let ok = ap (valid_cursor P) (sym is) ∙ valid in
      subst (UpTo P r.kinds.now (v * n)) (sym is) (corner_up_to r.grid.grid r.kinds.now r.long r.right v n e q ok)

  -- and up to a point's child
  at_point : (c p : ℕ) → y ≡ Point v c p → UpTo (grid_plan r.grid.grid) r.kinds.now (v * n + (c + 1)) y
  at_point c p is =
      let P = grid_plan r.grid.grid in
      let ok = ap (valid_cursor P) (sym is) ∙ valid in
      subst (UpTo P r.kinds.now (v * n + (c + 1))) (sym is) (point_up_to r.grid.grid r.kinds.now r.long r.right v n e c p ok)

pub overflow_mul-v : goal.overflow_mul-v
overflow_mul-v c =
    let at = at_corner c.args.self.now c.args.cursor c.requires c.node_children-children.ensures.is c.in-Corner.v _ c.in-Corner.is in
    record { fits = omega (arith, at.inside) }

pub slice_bounds-count_nonzero-end : goal.slice_bounds-count_nonzero-end
slice_bounds-count_nonzero-end c =
    let at = at_corner c.args.self.now c.args.cursor c.requires c.node_children-children.ensures.is c.in-Corner.v _ c.in-Corner.is in
    sym (length-take-le _ _ at.inside)

pub overflow_mul-v-in-Point : goal.overflow_mul-v-in-Point
overflow_mul-v-in-Point c =
    let at = at_point c.args.self.now c.args.cursor c.requires c.node_children-children.ensures.is c.in-Point.v _ _ c.in-Point.is in
    record { fits = omega (arith, at.inside) }

pub overflow_add-c : goal.overflow_add-c
overflow_add-c c =
    let at = at_point c.args.self.now c.args.cursor c.requires c.node_children-children.ensures.is c.in-Point.v _ _ c.in-Point.is in
    record { fits = omega (arith, at.inside) }

pub overflow_add-v : goal.overflow_add-v
overflow_add-v c =
    let at = at_point c.args.self.now c.args.cursor c.requires c.node_children-children.ensures.is c.in-Point.v _ _ c.in-Point.is in
    record { fits = omega (arith, at.inside) }

pub slice_bounds-count_nonzero-end-in-Point : goal.slice_bounds-count_nonzero-end-in-Point
slice_bounds-count_nonzero-end-in-Point c =
    let at = at_point c.args.self.now c.args.cursor c.requires c.node_children-children.ensures.is c.in-Point.v _ _ c.in-Point.is in
    sym (length-take-le _ _ at.inside)

pub returns-in-End : goal.returns-in-End
unfolding active_up_to
returns-in-End c =
    let g = c.args.self.now.grid.grid in
    c.active_children.ensures.is ∙ sym (active_all_lem g _ _) ∙ ap (active_up_to (grid_plan g)) (sym c.in-End.is)

pub returns-in-Corner : goal.returns-in-Corner
returns-in-Corner c =
    let at = at_corner c.args.self.now c.args.cursor c.requires c.node_children-children.ensures.is c.in-Corner.v _ c.in-Corner.is in
    c.count_nonzero.ensures ∙ at.count

pub returns-in-Point : goal.returns-in-Point
returns-in-Point c =
    let at = at_point c.args.self.now c.args.cursor c.requires c.node_children-children.ensures.is c.in-Point.v _ _ c.in-Point.is in
    c.count_nonzero-in-Point.ensures ∙ at.count
