-- The prepared memory, the schedule from its first corner on, and the job.
use Rattle.std.proofs.Common.{refl, sym, ap, subst, ◌∙◌, arith}
use Rattle.std.specs.Prelude.{Some}
use Rattle.schedule.specs.Opened.{lengths_of}
use Rattle.schedule.specs.Lent.{held}
use Rattle.plans.specs.Plan.{plan_of, value_of, decide_by}
use Rattle.plans.proofs.Plans.{counts_same}
use Rattle.engine.specs.Inner.Progress.{Lent}
use Rattle.sparse_field.proofs.Opening.{sized, nothing, start_lent, start_startable, opened_after, opened_leaves, active_within}
use Rattle.sparse_field.proofs.Results.{job_same}
use Rattle.sparse_field.proofs.calls.opened.Goals as goal

pub run_job-turn-requires-clause-sized : goal.run_job-turn-requires-clause-sized
run_job-turn-requires-clause-sized c =
    let none = nothing c.args.input (lengths_of (held c.args.slices.now)) c.requires.1 in
    (sized c.args.input none, none.four)

pub run_job-turn-requires-clause-lent : goal.run_job-turn-requires-clause-lent
run_job-turn-requires-clause-lent c =
    let i = c.args.input in
    let l = lengths_of (held c.args.slices.now) in
    (subst (λ m. Lent (plan_of i) m) (sym c.prepare.ensures.memory) (start_lent i l c.requires.1), start_startable i l c.requires.1, omega arith)

pub invariant_of-grid : goal.invariant_of-grid
invariant_of-grid c =
    let none = nothing c.args.input (lengths_of (held c.args.slices.now)) c.requires.1 in
    record { two = none.two; five = none.five }

pub job_at-requires : goal.job_at-requires
job_at-requires c =
    let i = c.args.input in
    let l = lengths_of (held c.args.slices.now) in
    let size = sized i (nothing i l c.requires.1) in
    (omega (arith, opened_leaves i l c.requires.1 c.prepare.ensures.memory c.run_job-turn.ensures.advanced, active_within i size), size.leaf_most)

pub returns-clause-next : goal.returns-clause-next
returns-clause-next c =
    let i = c.args.input in
    let l = lengths_of (held c.args.slices.now) in
    let engine = opened_after i l c.requires.1 c.prepare.ensures.memory c.run_job-turn.ensures.advanced in
    let counted = c.counts.ensures ∙ counts_same i.grid (decide_by i.band) (value_of i.model) in
    ap (λ j. Some j) (c.job_at.ensures ∙ job_same i c.run_job-turn.result c.requires.0 counted refl) ∙ sym (ap (λ e. e.job) engine)

pub returns-clause-memory : goal.returns-clause-memory
returns-clause-memory c =
    let i = c.args.input in
    let l = lengths_of (held c.args.slices.now) in
    sym (ap (λ e. e.memory) (opened_after i l c.requires.1 c.prepare.ensures.memory c.run_job-turn.ensures.advanced))
