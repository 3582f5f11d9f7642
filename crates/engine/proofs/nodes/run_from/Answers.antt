-- A cursor that a job may go on at is inside its plan.
use Rattle.std.proofs.Common.{sym, subst, arith}
use lib.ListN.{get_or-eq_default}
use Rattle.schedule.specs.Lent.{held}
use Rattle.schedule.specs.Resume.{events_from}
use Rattle.schedule.specs.Totals.{active_all}
use Rattle.plans.specs.Plan.{plan_with}
use Rattle.float.specs.Zero.{plus_zero}
use Rattle.engine.specs.Inner.Progress.{plan, Advanced, reading_in, progress}
use Rattle.engine.proofs.NodeLaws.{nodes_few, known_start, at_end_lem}
use Rattle.engine.proofs.nodes.run_from.Goals as goal

pub run_from_corner-done-requires-clause-within : goal.run_from_corner-done-requires-clause-within
unfolding plan_with
run_from_corner-done-requires-clause-within c =
    let here = known_start (plan c.args.task.now) c.args.at c.in-Corner.is c.requires.standable in
    here.1

pub run_from_corner-done-requires-clause-clean : goal.run_from_corner-done-requires-clause-clean
unfolding plan_with
run_from_corner-done-requires-clause-clean c = (
  c.requires.standable.lent.corners,
  record {
    within = omega arith;
    zero = λ i behind. get_or-eq_default c.args.slices.now.corners.now plus_zero behind;
  },
)

pub overflow_add-node : goal.overflow_add-node
unfolding plan_with
overflow_add-node c =
    let here = known_start (plan c.args.task.now) c.args.at c.in-Corner.is c.requires.standable in
    omega (arith, here.0, nodes_few c.args.task.now.grid c.args.task.now.sized)

pub run_nodes-requires-clause-within : goal.run_nodes-requires-clause-within
unfolding plan_with
run_nodes-requires-clause-within c =
    let here = known_start (plan c.args.task.now) c.args.at c.in-Corner.is c.requires.standable in
    omega (arith, here.0)

pub run_from_point-done-requires-clause-within : goal.run_from_point-done-requires-clause-within
unfolding plan_with
run_from_point-done-requires-clause-within c =
    let here = known_start (plan c.args.task.now) c.args.at c.in-Point.is c.requires.standable in
    (here.1, here.2, here.3)

pub run_nodes-requires-in-Point-clause-within : goal.run_nodes-requires-in-Point-clause-within
unfolding plan_with
run_nodes-requires-in-Point-clause-within c =
    let here = known_start (plan c.args.task.now) c.args.at c.in-Point.is c.requires.standable in
    omega (arith, here.0)

pub returns-in-End-clause-advanced : goal.returns-in-End-clause-advanced
returns-in-End-clause-advanced c =
    let a = c.args in
    let m = held a.slices.now in
    let P = plan a.task.now in
    subst (λ x. Advanced P a.at.left a.at.leaves m m (events_from P x (reading_in m)) _ (progress a.at.leaves a.at.left _) (active_all P)) (sym c.in-End.is)
    (at_end_lem P a.at.left a.at.leaves m c.requires.standable.lent c.requires.standable.few)
