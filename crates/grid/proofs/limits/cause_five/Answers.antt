-- The product of small factors fits, and is the last part of the cause.
use Rattle.std.proofs.Common.{rules, ◌*◌, ◌≤◌, ltb, sym, ap, ◌∙◌, subst, arith}
use lib.Ieee.Scale.{finite}
use Rattle.geometry.specs.declared.Vec3i.{Vec3i}
use Rattle.grid.specs.Nodes.{nodes_of}
use Rattle.grid.specs.Limits.{children_of}
use Rattle.grid.proofs.BlockLaws.{cube_le}
use Rattle.grid.proofs.LimitLaws.{inner_block, five_last, volume_few, product_few}
use Rattle.grid.proofs.limits.cause_five.Goals as goal

pub cube_of-requires : goal.cube_of-requires
cube_of-requires c = omega (arith, (inner_block _ c.requires).most)

pub overflow_mul-result-3 : goal.overflow_mul-result-3
overflow_mul-result-3 c =
    let g = c.args.g in
    let few : c.cube_of.result ≤ 262144 = omega (arith, cube_le 64 g.inner (inner_block g c.requires).most, c.cube_of.ensures) in
    let volume = volume_few _ _ _ c.if-n-gt-MOST_NODES.false c.if-n-gt-MOST_NODES-2.false c.if-n-gt-MOST_NODES-3.false in
    omega (arith, product_few _ _ volume few)

pub returns : goal.returns
unfolding children_of nodes_of
returns c =
    let g = c.args.g in
    let e = c.node_counts-n.ensures in
    let cubed = c.cube_of.ensures in
    (λ t. ltb 16777216 ((e t).i * (e t).j * (e t).k * cubed t))
    ∙ five_last g (ap finite (sym c.node_size.ensures) ∙ sym c.is_finite.ensures ∙ search rules)
    (subst (λ (v : Vec3i). v.i ≤ 1024) e c.if-n-gt-MOST_NODES.false)
    (subst (λ (v : Vec3i). v.j ≤ 1024) e c.if-n-gt-MOST_NODES-2.false)
    (subst (λ (v : Vec3i). v.k ≤ 1024) e c.if-n-gt-MOST_NODES-3.false)
