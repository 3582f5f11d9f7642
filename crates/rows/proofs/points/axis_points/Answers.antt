-- One point more.
use Rattle.std.proofs.Common.{◌-◌, sym, ◌∙◌, arith}
use lib.Ieee.{binary64, add, mul}
use Rattle.geometry.specs.Axis.{step_along, along}
use Rattle.lists.proofs.Filling.{filled_none, front_store, filled_done}
use Rattle.rows.proofs.points.axis_points.Goals as goal

pub loop-i-init : goal.loop-i-init
loop-i-init c = sym (filled_none _ _ _)

pub loop-i-preserved : goal.loop-i-preserved
unfolding along
loop-i-preserved c =
    let a = c.args in
    let step = c.step_along-step.ensures ∙ (λ t. step_along a.least a.most (c.steps_between.ensures t)) in
    let value = c.computed.ensures ∙ (λ t. add binary64 a.least (mul binary64 (c.from_count.ensures t) (step t))) in
    front_store c.loop-i.i (along a.least a.most (a.l - 1)) a.axis.now c.loop-i.invariant value

pub returns : goal.returns
returns c = filled_done _ _ _ c.loop-i.invariant (omega arith)
