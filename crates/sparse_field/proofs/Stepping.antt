-- What a possible record gives a step's work.
use Rattle.std.proofs.Common.{◌≡◌, ◌≤◌, false, arith}
use Rattle.input.proofs.Clear.{Clear, clear}
use Rattle.grid.proofs.LimitLaws.{bound_fits}
use Rattle.schedule.specs.declared.Job.{Job}
use Rattle.schedule.specs.Memory.{Memory}
use Rattle.schedule.specs.Totals.{evaluations_bound, active_all}
use Rattle.schedule.specs.PlanLaws.{PlanLaws}
use Rattle.schedule.specs.Opened.{lengths_of}
use Rattle.schedule.specs.Possible.{Possible, impossible}
use Rattle.schedule.proofs.Possible.{possible}
use Rattle.schedule.proofs.Sums.{up_to_most}
use Rattle.plans.specs.Plan.{plan_of, plan_with}
use Rattle.plans.specs.Sparse.{sparse}
use Rattle.plans.proofs.Lawful.{sparse_laws}
use Rattle.engine.specs.Inner.Sizes.{Sized}
use Rattle.engine.specs.Inner.Progress.{Lent}
use Rattle.engine.specs.Inner.Startable.{Startable}
use Rattle.sparse_field.proofs.Opening.{sized, lent_memory, valid_startable}

module _ (j : Job) (m : Memory) (passed : impossible sparse j m ≡ false) where
  pub judged : Possible sparse j m
  judged = possible sparse j m passed

  -- its input meets no cause
  pub unrefused : Clear j.input (lengths_of m)
  unrefused = clear j.input (lengths_of m) judged.accepted

  pub size : Sized j.input.grid
  size = sized j.input unrefused

  pub all_lent : Lent (plan_of j.input) m
  all_lent = lent_memory j.input m unrefused judged.active_kinds

  pub laws : PlanLaws (plan_of j.input)
  laws = sparse_laws.plan_laws (lengths_of m) j.input judged.accepted

  pub may_start : Startable (plan_of j.input) j.cursor j.counts.leaves
  may_start = valid_startable (plan_of j.input) j.cursor j.counts.leaves judged.cursor judged.at_most judged.at_least

  pub few_leaves : j.counts.leaves ≤ active_all (plan_of j.input)
  few_leaves = omega (arith, judged.at_most, up_to_most (plan_of j.input) j.cursor judged.cursor)

  -- no job has many evaluations
  pub few : evaluations_bound (plan_of j.input) ≤ 5000000000000
  unfolding evaluations_bound plan_with
  few = (bound_fits j.input.grid unrefused.two unrefused.five).bound
