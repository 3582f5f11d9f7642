-- The product of the three counts along the axes.
use Rattle.std.proofs.Common.{◌<◌, ◌≤◌, sym, subst, arith}
use Rattle.geometry.specs.declared.Vec3i.{Vec3i}
use Rattle.grid.proofs.ActiveCounts.{active_in_by, along_x, along_y, along_z}
use Rattle.grid.proofs.Counts.{i_above, j_above}
use Rattle.grid.proofs.LimitLaws.{totals_area, totals_volume}
use Rattle.grid.proofs.activity.active_in.Goals as goal

pub indices-at-requires : goal.indices-at-requires
indices-at-requires c =
    let g = c.args.g in
    let e = sym c.node_counts-nodes.ensures in
    (subst (λ (v : Vec3i). 0 < v.i) e (i_above g), subst (λ (v : Vec3i). 0 < v.j) e (j_above g))

pub overflow_mul-result : goal.overflow_mul-result
overflow_mul-result c =
    let e = c.axes-axes.ensures in
    let g = c.args.g in
    let x : c.count.result ≤ 65536 = omega (arith, along_x g e, c.count.ensures.few, c.requires) in
    let y : c.count-2.result ≤ 65536 = omega (arith, along_y g e, c.count-2.ensures.few, c.requires) in
    omega (arith, totals_area _ _ x y)

pub overflow_mul-result-2 : goal.overflow_mul-result-2
overflow_mul-result-2 c =
    let e = c.axes-axes.ensures in
    let g = c.args.g in
    let x : c.count.result ≤ 65536 = omega (arith, along_x g e, c.count.ensures.few, c.requires) in
    let y : c.count-2.result ≤ 65536 = omega (arith, along_y g e, c.count-2.ensures.few, c.requires) in
    let z : c.count-3.result ≤ 65536 = omega (arith, along_z g e, c.count-3.ensures.few, c.requires) in
    omega (arith, totals_volume _ _ _ x y z)

pub returns : goal.returns
returns c =
    active_in_by c.args.g c.axes-axes.ensures c.node_counts-nodes.ensures
    c.args.v c.indices-at.ensures c.count.ensures.is c.count-2.ensures.is c.count-3.ensures.is
