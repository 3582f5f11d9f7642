-- The model has the input's plan.
use Rattle.std.proofs.Common.{◌≤◌, subst}
use Rattle.schedule.specs.Totals.{active_all}
use Rattle.schedule.specs.Lent.{held}
use Rattle.engine.specs.Inner.Progress.{Lent}
use Rattle.engine.specs.Inner.Startable.{Startable}
use Rattle.engine.proofs.JobLaws.{same_plan, with_plan}
use Rattle.engine.proofs.jobs.run_job.Goals as goal

pub run_from-requires : goal.run_from-requires
run_from-requires c =
    let a = c.args in
    let m = held a.slices.now in
    let ok = subst (λ P. Lent P m × Startable P a.at.cursor a.at.leaves × (a.at.leaves ≤ active_all P)) (same_plan a.input.now c.requires.sized.1) c.requires.lent in
    record { standable = record { lent = ok.0; startable = ok.1; few = ok.2 } }

pub returns-clause-advanced : goal.returns-clause-advanced
returns-clause-advanced c =
    let a = c.args in
    with_plan _ _ _ _ a.at.cursor (held a.slices.now) (same_plan a.input.now c.requires.sized.1) c.run_from.ensures.advanced

pub invariant_of-task : goal.invariant_of-task
invariant_of-task c = record { sized = c.requires.sized.0 }
