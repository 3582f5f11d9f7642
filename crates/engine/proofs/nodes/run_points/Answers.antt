-- The points are those of the plan's leaf.
use Rattle.schedule.specs.Lent.{held}
use Rattle.plans.specs.Plan.{decide_by}
use Rattle.rows.specs.Inner.ModelValue.{model_at}
use Rattle.engine.proofs.NodeLaws.{leaves_inside, node_points}
use Rattle.engine.proofs.nodes.run_points.Goals as goal

pub leaf_from-requires : goal.leaf_from-requires
leaf_from-requires c =
    let a = c.args in (
      a.task.now.sized.leaf_least,
      a.task.now.sized.leaf_most,
      c.requires.within.1,
      c.requires.within.2,
      leaves_inside a.task.now.grid (decide_by a.task.now.band) (model_at a.task.now.model.now) a.leaf.node a.leaf.child a.leaf.point a.leaf.left a.leaf.leaves
          (held a.slices.now) c.requires.ready c.requires.within.0,
    )

pub returns-clause-advanced : goal.returns-clause-advanced
returns-clause-advanced c =
    let a = c.args in
    node_points a.task.now.grid (decide_by a.task.now.band) (model_at a.task.now.model.now) a.leaf.node a.leaf.child a.leaf.point a.leaf.left a.leaf.leaves
    (held a.slices.now) c.requires.ready c.requires.within.0 c.requires.within.1 c.node_box-bounds.ensures c.child_box-child.ensures
    c.leaf_from.ensures.answer c.leaf_from.ensures.store
