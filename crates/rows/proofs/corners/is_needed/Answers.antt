-- `is_needed` meets its contract: the corner's indices tell the children around it.
use mathlib.Core.Path.{sym, ap, ◌∙◌, subst}
use native.Mathlib.Omega.{arith}
use Prim.Native.Nat.{◌+◌, ◌≤◌}
use Rattle.grid.specs.CornerList.{nonzero_at}
use Rattle.grid.proofs.Octets.{within}
use Rattle.rows.specs.Inner.Around.{around}
use Rattle.rows.proofs.AroundLaws.{needed_is}
use Rattle.rows.proofs.corners.is_needed.Goals as goal

pub has_child-requires : goal.has_child-requires
has_child-requires c =
    let a = c.args in
    let w = within (a.node.now.n + 1) a.corner (omega arith) c.requires in
    let at = sym c.indices.ensures in (
      subst (λ v. v.i ≤ a.node.now.n) at (omega (arith, w.i_below)),
      subst (λ v. v.j ≤ a.node.now.n) at (omega (arith, w.j_below)),
      subst (λ v. v.k ≤ a.node.now.n) at (omega (arith, w.k_below)),
    )

pub returns : goal.returns
returns c =
    let start = c.before.before.before in
    let a = start.args in
    c.has_child.ensures
    ∙ ap (around a.node.now.n (nonzero_at a.node.now.kinds.now)) c.indices.ensures
    ∙ needed_is a.node.now.n (nonzero_at a.node.now.kinds.now) a.node.now.some a.corner start.requires
