-- One point more, the indices of the next, and each is its leaf's point.
use Rattle.std.proofs.Common.{◌≡◌, ℕ, ◌+◌, ◌<◌, sym, ap, ◌∙◌, subst, add-zero, add_assoc, arith}
use Rattle.geometry.specs.declared.Vec3.{Vec3}
use Rattle.geometry.specs.Index.{indices_of, next_indices}
use Rattle.geometry.specs.PointRow.{with_points}
use Rattle.geometry.proofs.Inverse.{column_below, line_below}
use Rattle.geometry.proofs.Next.{next_of}
use Rattle.geometry.proofs.Division.{slab_le}
use Rattle.geometry.proofs.PointRows.{none_set, one_more, same_points}
use Rattle.grid.specs.Inner.Steps.{stepped_point}
use Rattle.grid.proofs.Stepped.{leaf_stepped}
use Rattle.grid.proofs.points.leaf_points.Goals as goal

pub loop-q-init : goal.loop-q-init
loop-q-init c =
    let l = c.args.l in
    (c.indices-at.ensures ∙ ap (λ m. indices_of m l l) (sym (add-zero _)), none_set _ _)

pub next_indices-at-requires : goal.next_indices-at-requires
next_indices-at-requires c =
    let l = c.args.l in
    let p = c.args.first + c.loop-q.q in
    let at = sym c.loop-q.invariant.0 in
    let above = c.requires.0 in
    let next : p + 1 < 18446744073709551616 = omega arith in
    let most : (indices_of p l l).k + 1 < 18446744073709551616 = omega (arith, slab_le p l l) in (
      subst (λ v. v.i < l) at (column_below p l l above above),
      subst (λ v. v.j < l) at (line_below p l l above above),
      subst (λ v. v.k + 1 < 18446744073709551616) at most,
    )

pub loop-q-preserved : goal.loop-q-preserved
loop-q-preserved c =
    let inv = c.loop-q.invariant in
    let q = c.loop-q.q in
    let l = c.args.l in
    let above = c.requires.0 in (
      c.next_indices-at.ensures
          ∙ ap (λ v. next_indices v l l) inv.0
          ∙ next_of l l above above (c.args.first + q)
          ∙ ap (λ m. indices_of m l l) (add_assoc c.args.first q 1),
      c.set.ensures ∙ one_more _ q _ inv.1 (c.stepped_point.ensures ∙ ap (stepped_point _ _) inv.0),
    )

pub returns : goal.returns
returns c =
    let a = c.args in
    let l = a.l in
    let points : ℕ → Vec3 = λ q. stepped_point a.b.min c.leaf_steps-steps.result (indices_of (a.first + q) l l) in
    let last : c.loop-q.q ≡ a.count = omega arith in
    c.loop-q.invariant.1
    ∙ ap (λ n. with_points n points a.row.now) last
    ∙ same_points a.row.now a.count points _ (λ q below. leaf_stepped a.b l (a.first + q) c.leaf_steps-steps.ensures)
