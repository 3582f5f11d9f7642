-- Past the last child the corners are cleared; work that has stopped leaves them.
use Rattle.std.proofs.Common.{sym, subst}
use Rattle.schedule.specs.Lent.{held}
use Rattle.plans.specs.Plan.{plan_with}
use Rattle.engine.specs.Inner.Progress.{plan}
use Rattle.engine.specs.Inner.Turns.{CleanBehind}
use Rattle.engine.proofs.Turns.{turn_clear, none_stop}
use Rattle.engine.proofs.nodes.finish_node.Goals as goal

pub clear_corners-requires : goal.clear_corners-requires
clear_corners-requires c = subst (CleanBehind c.args.used) (sym c.run_children-done.ensures.corners) c.requires.clean

pub returns-then-is_none-clause-node : goal.returns-then-is_none-clause-node
unfolding plan_with
returns-then-is_none-clause-node c =
    let a = c.args in
    turn_clear (plan a.task.now) a.visit.node a.visit.left a.visit.leaves a.visit.place (held a.slices.now)
    (held c.run_children-done.new.slices) c.run_children-done.result c.run_children-done.ensures.advanced
    (none_stop c.if-is_none.ensures) c.clear_corners.ensures
