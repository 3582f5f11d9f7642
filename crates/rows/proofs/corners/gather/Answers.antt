-- A corner's indices are a corner's of the node, and what the code tells of it is whether it is needed.
use Rattle.std.proofs.Common.{◌≡◌, ℕ, ◌+◌, ◌<◌, Bool, List, length, refl, sym, ap, ◌∙◌, subst, inr, arith}
use lib.ListN.{length-set}
use Rattle.geometry.specs.declared.Vec3i.{Vec3i}
use Rattle.geometry.specs.Index.{indices_of, next_indices}
use Rattle.geometry.proofs.Next.{next_of}
use Rattle.grid.specs.Blocks.{cube}
use Rattle.grid.specs.Corners.{needed}
use Rattle.grid.specs.CornerList.{nonzero_at}
use Rattle.grid.proofs.Octets.{Within, within}
use Rattle.rows.specs.Inner.Around.{around}
use Rattle.rows.proofs.AroundLaws.{needed_is}
use Rattle.rows.proofs.Searching.{gathering_none, gathering_more, gathering_skip}
use Rattle.rows.proofs.corners.gather.Goals as goal
use Rattle.rows.proofs.corners.gather.Goals.{then-has_child+else-count-most, else-has_child}

module _ (n : ℕ) (kinds : List ℕ) (corner : ℕ) (at : Vec3i) (is : at ≡ indices_of corner (n + 1) (n + 1)) (below : corner < cube (n + 1)) where
  inside : Within (n + 1) at
  inside = subst (Within (n + 1)) (sym is) (within (n + 1) corner (omega arith) below)

  tells : (r : Bool) → 0 < n → r ≡ around n (nonzero_at kinds) at → r ≡ needed n (nonzero_at kinds) corner
  tells r some e = e ∙ ap (around n (nonzero_at kinds)) is ∙ needed_is n (nonzero_at kinds) some corner below

pub loop-corner-init : goal.loop-corner-init
loop-corner-init c = (omega arith, refl, c.indices-at.ensures, gathering_none _ _ _)

pub has_child-requires : goal.has_child-requires
has_child-requires c =
    let a = c.args in
    let l = c.loop-corner in
    let w = inside a.node.now.n a.node.now.kinds.now l.corner l.at l.invariant.2 (omega (arith, c.cube_of-total.ensures)) in
    (omega (arith, w.i_below), omega (arith, w.j_below), omega (arith, w.k_below))

pub returns-then-count-most : goal.returns-then-count-most
returns-then-count-most c =
    let a = c.args in
    let l = c.loop-corner in
    let below : l.corner < cube (a.node.now.n + 1) = omega (arith, c.cube_of-total.ensures) in
    let told = tells a.node.now.n a.node.now.kinds.now l.corner l.at l.invariant.2 below _ a.node.now.some c.has_child.ensures in
    record {
      found = l.invariant.3;
      within = omega arith;
      few = omega arith;
      stops = inr (c.if-count-most.true, sym told ∙ c.if-has_child.true);
    }

pub next_indices-at-requires : goal.next_indices-at-requires
next_indices-at-requires c =
    let a = c.args in
    let l = c.loop-corner in
    let w = inside a.node.now.n a.node.now.kinds.now l.corner l.at l.invariant.2 (omega (arith, c.cube_of-total.ensures)) in
    (w.i_below, w.j_below, omega (arith, w.k_below))

pub loop-corner-preserved : goal.loop-corner-preserved
loop-corner-preserved c =
    let a = c.args in
    let l = c.loop-corner in
    let side = a.node.now.n + 1 in
    let below : l.corner < cube (a.node.now.n + 1) = omega (arith, c.cube_of-total.ensures) in
    let told = tells a.node.now.n a.node.now.kinds.now l.corner l.at l.invariant.2 below _ a.node.now.some c.has_child.ensures in
    let next =
    c.next_indices-at.ensures
    ∙ ap (λ v. next_indices v side side) l.invariant.2
    ∙ next_of side side (omega arith) (omega arith) l.corner in
    elim c.if-has_child.branch [
      | then-has_child+else-count-most w ↦ (
        omega (arith, w.count-is),
        ap length w.list-is ∙ length-set l.list l.count l.corner ∙ l.invariant.1,
        next,
        gathering_more _ a.i l.corner l.count l.list l.invariant.3 (sym told ∙ w.if-has_child.true) (omega (arith, l.invariant.1)) w.list-is w.count-is,
      )
      | else-has_child w ↦ (
        omega (arith, w.count-is),
        ap length w.list-is ∙ l.invariant.1,
        next,
        gathering_skip _ a.i l.corner l.count l.list l.invariant.3 (sym told ∙ w.if-has_child.false) w.list-is w.count-is,
      )
    ]
