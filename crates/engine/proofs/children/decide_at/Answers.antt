-- What is written is what is decided.
use Rattle.std.proofs.Common.{◌∙◌, ap}
use Rattle.grid.specs.Inner.Octets.{octet_values}
use Rattle.schedule.specs.Lent.{held}
use Rattle.engine.proofs.Decisions.{constant_left, leaf_left}
use Rattle.engine.proofs.children.decide_at.Goals as goal

pub returns-in-Constant-clause-memory : goal.returns-in-Constant-clause-memory
returns-in-Constant-clause-memory c =
    let a = c.args in
    let read = c.octet_values-octet.ensures ∙ ap (λ m. octet_values m.corners a.task.now.grid.inner a.visit.place) c.view.ensures in
    constant_left a.task.now a.visit (held a.slices.now) c.cube_of.ensures c.if-empty.false c.child_box-child.ensures read
    c.decide_child-verdict.ensures c.in-Constant.is c.into.ensures

pub returns-in-Leaf-clause-memory : goal.returns-in-Leaf-clause-memory
returns-in-Leaf-clause-memory c =
    let a = c.args in
    let read = c.octet_values-octet.ensures ∙ ap (λ m. octet_values m.corners a.task.now.grid.inner a.visit.place) c.view.ensures in
    leaf_left a.task.now a.visit (held a.slices.now) c.cube_of.ensures c.if-empty.false c.child_box-child.ensures read
    c.decide_child-verdict.ensures c.in-Leaf.is c.into-in-Leaf.ensures
