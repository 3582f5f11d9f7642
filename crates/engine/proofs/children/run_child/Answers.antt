-- The decision is a turn of the plan's, with a leaf's points.
use Rattle.std.proofs.Common.{◌≡◌, ◌+◌, ◌*◌, ◌≤◌, length, sym, ap, subst, ◌∙◌, arith}
use Rattle.std.proofs.Common as std
use Rattle.schedule.specs.Lent.{held}
use Rattle.rows.specs.Inner.ModelValue.{model_at}
use Rattle.plans.specs.Plan.{decide_by}
use Rattle.engine.specs.Inner.Progress.{ChildrenAdvanced, plan, progress}
use Rattle.engine.proofs.ChildLaws.{leaves_few}
use Rattle.engine.proofs.Decisions.{decidable, none_turn, some_inside, some_turn}
use Rattle.engine.proofs.children.run_child.Goals as goal

pub decide_at-requires : goal.decide_at-requires
decide_at-requires c =
    let a = c.args in
    decidable a.task.now (model_at a.task.now.model.now) a.visit (held a.slices.now) c.requires.within.0 c.requires.within.1 c.requires.ready

pub returns-in_default-clause-advanced : goal.returns-in_default-clause-advanced
returns-in_default-clause-advanced c =
    let a = c.args in
    subst (λ m. ChildrenAdvanced (plan a.task.now) a.visit.node a.visit.place (a.visit.place + 1) a.visit.left a.visit.leaves
    (held a.slices.now) m (progress a.visit.leaves a.visit.left std.None)) (sym c.decide_at.ensures.memory)
    (none_turn a.task.now (model_at a.task.now.model.now) a.visit (held a.slices.now) c.requires.within.0 c.requires.within.1 c.requires.ready
    (sym c.decide_at.ensures.answer ∙ c.in_default.is))

pub overflow_add-leaf : goal.overflow_add-leaf
overflow_add-leaf c =
    let a = c.args in
    omega (
      arith,
      leaves_few a.task.now.grid (decide_by a.task.now.band) (model_at a.task.now.model.now) a.visit.node a.visit.place a.visit.leaves _
          a.task.now.sized c.requires.within.1 c.requires.ready,
    )

pub leaf_from-requires : goal.leaf_from-requires
leaf_from-requires c =
    let a = c.args in
    let inside = some_inside a.task.now (model_at a.task.now.model.now) a.visit (held a.slices.now) c.requires.within.0 c.requires.within.1 c.requires.ready
    (sym c.decide_at.ensures.answer ∙ c.in-Some.is) in (
      a.task.now.sized.leaf_least,
      a.task.now.sized.leaf_most,
      omega arith,
      omega arith,
      omega (arith, inside, ap (λ m. length m.store) c.decide_at.ensures.memory),
    )

pub returns-clause-advanced : goal.returns-clause-advanced
returns-clause-advanced c =
    let a = c.args in
    some_turn a.task.now (model_at a.task.now.model.now) a.visit (held a.slices.now) c.requires.within.0 c.requires.within.1 c.requires.ready
    c.leaf_from.new.store (sym c.decide_at.ensures.answer ∙ c.in-Some.is) c.leaf_from.ensures.answer c.decide_at.ensures.memory c.leaf_from.ensures.store
