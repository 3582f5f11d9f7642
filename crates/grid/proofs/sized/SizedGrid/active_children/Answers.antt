-- The product of the three totals along the axes.
use Rattle.std.proofs.Common.{◌≡◌, ◌*◌, ◌≤◌, sym, subst, arith}
use Rattle.geometry.specs.declared.Vec3i.{Vec3i}
use Rattle.grid.specs.Counting.{active_of}
use Rattle.grid.proofs.ActiveCounts.{active_of_by, along_x, along_y, along_z}
use Rattle.grid.proofs.LimitLaws.{few_nodes, few_children, active_few, inner_block, totals_area, totals_volume}
use Rattle.grid.proofs.sized.SizedGrid.active_children.Goals as goal

pub total-requires : goal.total-requires
total-requires c =
    let g = c.args.self in
    let few = (few_nodes g.grid g.five).x in
    (omega (arith, along_x g.grid c.axes-axes.ensures, (inner_block g.grid g.two).most), subst (λ (v : Vec3i). v.i ≤ 1024) (sym c.node_counts-nodes.ensures) few)

pub total-requires-2 : goal.total-requires-2
total-requires-2 c =
    let g = c.args.self in
    let few = (few_nodes g.grid g.five).y in
    (omega (arith, along_y g.grid c.axes-axes.ensures, (inner_block g.grid g.two).most), subst (λ (v : Vec3i). v.j ≤ 1024) (sym c.node_counts-nodes.ensures) few)

pub total-requires-3 : goal.total-requires-3
total-requires-3 c =
    let g = c.args.self in
    let few = (few_nodes g.grid g.five).z in
    (omega (arith, along_z g.grid c.axes-axes.ensures, (inner_block g.grid g.two).most), subst (λ (v : Vec3i). v.k ≤ 1024) (sym c.node_counts-nodes.ensures) few)

pub overflow_mul-result : goal.overflow_mul-result
overflow_mul-result c = omega (arith, totals_area _ _ c.total.ensures.few c.total-2.ensures.few)

pub overflow_mul-result-2 : goal.overflow_mul-result-2
overflow_mul-result-2 c = omega (arith, totals_volume _ _ _ c.total.ensures.few c.total-2.ensures.few c.total-3.ensures.few)

pub returns-clause-is : goal.returns-clause-is
returns-clause-is c =
    active_of_by c.args.self.grid c.axes-axes.ensures c.node_counts-nodes.ensures c.total.ensures.is c.total-2.ensures.is c.total-3.ensures.is

pub returns-clause-few : goal.returns-clause-few
returns-clause-few c =
    let g = c.args.self in
    let whole : c.total.result * c.total-2.result * c.total-3.result ≡ active_of g.grid =
    active_of_by g.grid c.axes-axes.ensures c.node_counts-nodes.ensures c.total.ensures.is c.total-2.ensures.is c.total-3.ensures.is in
    omega (arith, active_few g.grid, few_children g.grid g.five, whole)
