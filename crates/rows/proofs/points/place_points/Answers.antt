-- The indices are a point's of the leaf, and one point more is placed.
use Rattle.std.proofs.Common.{◌≡◌, ℕ, ◌+◌, ◌<◌, get_or, sym, ap, ◌∙◌, subst, add-zero, add_assoc, arith}
use lib.Ieee.{nan}
use Rattle.geometry.specs.Values.{vec3}
use Rattle.geometry.specs.declared.Vec3i.{Vec3i}
use Rattle.geometry.specs.Index.{indices_of, next_indices}
use Rattle.geometry.proofs.Next.{next_of}
use Rattle.geometry.proofs.PointRows.{none_set, one_more}
use Rattle.grid.specs.Blocks.{cube}
use Rattle.grid.proofs.Octets.{Within, within}
use Rattle.rows.specs.Inner.Axes.{axes_point}
use Rattle.rows.proofs.points.place_points.Goals as goal

inside : (l p : ℕ) (at : Vec3i) → at ≡ indices_of p l l → 0 < l → p < cube l → Within l at
inside l p at is above below = subst (Within l) (sym is) (within l p above below)

pub loop-q-init : goal.loop-q-init
loop-q-init c =
    let a = c.args in
    (c.indices-at.ensures ∙ ap (λ m. indices_of m a.l a.l) (sym (add-zero _)), none_set _ _)

pub offset_bounds-axes-at : goal.offset_bounds-axes-at
offset_bounds-axes-at c =
    let w = inside c.args.l _ _ c.loop-q.invariant.0 c.requires.0 (omega (arith, c.requires.3)) in
    omega (arith, w.i_below, c.requires.1)

pub bounds-axes-at : goal.bounds-axes-at
bounds-axes-at c =
    let w = inside c.args.l _ _ c.loop-q.invariant.0 c.requires.0 (omega (arith, c.requires.3)) in
    omega (arith, w.i_below, c.requires.1)

pub offset_bounds-axes-at-in-loop-q : goal.offset_bounds-axes-at-in-loop-q
offset_bounds-axes-at-in-loop-q c =
    let w = inside c.args.l _ _ c.loop-q.invariant.0 c.requires.0 (omega (arith, c.requires.3)) in
    omega (arith, w.j_below, c.requires.1)

pub bounds-axes-at-in-loop-q : goal.bounds-axes-at-in-loop-q
bounds-axes-at-in-loop-q c =
    let w = inside c.args.l _ _ c.loop-q.invariant.0 c.requires.0 (omega (arith, c.requires.3)) in
    omega (arith, w.j_below, c.requires.1)

pub offset_bounds-axes-at-in-loop-q-2 : goal.offset_bounds-axes-at-in-loop-q-2
offset_bounds-axes-at-in-loop-q-2 c =
    let w = inside c.args.l _ _ c.loop-q.invariant.0 c.requires.0 (omega (arith, c.requires.3)) in
    omega (arith, w.k_below, c.requires.1)

pub bounds-axes-at-in-loop-q-2 : goal.bounds-axes-at-in-loop-q-2
bounds-axes-at-in-loop-q-2 c =
    let w = inside c.args.l _ _ c.loop-q.invariant.0 c.requires.0 (omega (arith, c.requires.3)) in
    omega (arith, w.k_below, c.requires.1)

pub next_indices-at-requires : goal.next_indices-at-requires
next_indices-at-requires c =
    let w = inside c.args.l _ _ c.loop-q.invariant.0 c.requires.0 (omega (arith, c.requires.3)) in
    (w.i_below, w.j_below, omega (arith, w.k_below, c.requires.1))

pub loop-q-preserved : goal.loop-q-preserved
unfolding axes_point
loop-q-preserved c =
    let a = c.args in
    let q = c.loop-q.q in
    let inv = c.loop-q.invariant in (
      c.next_indices-at.ensures
          ∙ ap (λ v. next_indices v a.l a.l) inv.0
          ∙ next_of a.l a.l c.requires.0 c.requires.0 (a.p + q)
          ∙ ap (λ m. indices_of m a.l a.l) (add_assoc a.p q 1),
      c.set.ensures ∙ one_more a.row.now q (λ q. axes_point a.l a.axes.now (a.p + q)) inv.1 (c.new.ensures ∙ ap (λ (v : Vec3i). vec3 (get_or a.axes.now.xs v.i nan) (get_or a.axes.now.ys v.j nan) (get_or a.axes.now.zs v.k nan)) inv.0),
    )
