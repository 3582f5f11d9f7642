-- The run over the corners that a node's kinds need is the plan's: it stops before one, or comes to the children.
use Rattle.std.proofs.Common.{◌*◌, ◌∙◌, arith}
use Rattle.schedule.specs.Lent.{held}
use Rattle.plans.specs.Plan.{plan_with, decide_by}
use Rattle.plans.proofs.Plans.{plan_laws_lem}
use Rattle.rows.specs.Inner.ModelValue.{model_at}
use Rattle.engine.proofs.NodeLaws.{part_few, part_inside, part_long, node_past, node_at_corner, node_past_corners}
use Rattle.engine.proofs.nodes.run_corners.Goals as goal

pub overflow_mul-first : goal.overflow_mul-first
unfolding plan_with
overflow_mul-first c = omega (arith, part_few c.args.task.now.grid c.args.visit.node c.args.task.now.sized c.requires.ready.node c.cube_of-children.ensures)

pub overflow_add-node : goal.overflow_add-node
unfolding plan_with
overflow_add-node c = omega (arith, part_few c.args.task.now.grid c.args.visit.node c.args.task.now.sized c.requires.ready.node c.cube_of-children.ensures)

pub slice_bounds-node-end : goal.slice_bounds-node-end
unfolding plan_with
slice_bounds-node-end c =
    part_inside c.args.task.now.grid c.args.visit.node c.args.task.now.sized c.requires.ready.node c.cube_of-children.ensures _ c.requires.ready.lent.kinds

pub invariant_of-node : goal.invariant_of-node
unfolding plan_with
invariant_of-node c =
    let n = c.cube_of-children.result in
    let inside = part_inside c.args.task.now.grid c.args.visit.node c.args.task.now.sized c.requires.ready.node c.cube_of-children.ensures _ c.requires.ready.lent.kinds in
    record {
      some = c.args.task.now.sized.inner_least;
      few = c.args.task.now.sized.inner_most;
      whole = part_long (held c.args.slices.now).kinds (c.args.visit.node * n) n inside ∙ c.cube_of-children.ensures;
    }

pub run_corners-end-requires : goal.run_corners-end-requires
unfolding plan_with
run_corners-end-requires c = (c.requires.ready.lent.corners, c.requires.within)

pub returns-then-end-cube_of-clause-advanced : goal.returns-then-end-cube_of-clause-advanced
returns-then-end-cube_of-clause-advanced c =
    let a = c.args in
    node_at_corner a.task.now.grid (decide_by a.task.now.band) (model_at a.task.now.model.now) a.visit.node a.visit.corner a.visit.left a.visit.leaves
    (held a.slices.now) c.requires.ready c.cube_of-children.result c.cube_of-children.ensures c.node_box-bounds.ensures c.run_corners-end.ensures
    (omega (arith, c.cube_of.ensures, c.if-end-cube_of.true))

pub returns-then-end-cube_of-clause-behind : goal.returns-then-end-cube_of-clause-behind
returns-then-end-cube_of-clause-behind c =
    let a = c.args in
    node_past a.task.now.grid (decide_by a.task.now.band) (model_at a.task.now.model.now) a.visit.node a.visit.corner a.visit.left a.visit.leaves
    (held a.slices.now) c.requires.ready c.cube_of-children.result c.cube_of-children.ensures c.node_box-bounds.ensures c.run_corners-end.ensures

pub returns-else-end-cube_of-clause-advanced : goal.returns-else-end-cube_of-clause-advanced
returns-else-end-cube_of-clause-advanced c =
    let a = c.args in
    node_past_corners a.task.now.grid (decide_by a.task.now.band) (model_at a.task.now.model.now) a.visit.node a.visit.corner a.visit.left a.visit.leaves
    (held a.slices.now) c.requires.ready c.cube_of-children.result c.cube_of-children.ensures c.node_box-bounds.ensures c.run_corners-end.ensures
    (plan_laws_lem a.task.now.grid a.task.now.band (model_at a.task.now.model.now) c.args.task.now.sized.inner_least)
    (omega (arith, c.cube_of.ensures, c.if-end-cube_of.false))

pub returns-else-end-cube_of-clause-behind : goal.returns-else-end-cube_of-clause-behind
returns-else-end-cube_of-clause-behind c =
    let a = c.args in
    node_past a.task.now.grid (decide_by a.task.now.band) (model_at a.task.now.model.now) a.visit.node a.visit.corner a.visit.left a.visit.leaves
    (held a.slices.now) c.requires.ready c.cube_of-children.result c.cube_of-children.ensures c.node_box-bounds.ensures c.run_corners-end.ensures
