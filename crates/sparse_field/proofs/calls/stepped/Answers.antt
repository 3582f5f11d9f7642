-- A possible record gives the work its start, and the next job follows from where the work has come to.
use Rattle.std.proofs.Common.{refl, sym, ap, ◌∙◌, arith}
use Rattle.std.specs.Prelude.{Some}
use Rattle.schedule.specs.Opened.{lengths_of}
use Rattle.schedule.specs.Lent.{held}
use Rattle.sparse_field.proofs.Opening.{active_within}
use Rattle.sparse_field.proofs.Stepping.{judged, unrefused, size, all_lent, laws, may_start, few_leaves, few}
use Rattle.sparse_field.proofs.Results.{left_most, leaves_after, made_most, job_same, engine_after}
use Rattle.sparse_field.proofs.calls.stepped.Goals as goal

pub run_job-turn-requires-clause-sized : goal.run_job-turn-requires-clause-sized
run_job-turn-requires-clause-sized c =
    let m = held c.args.slices.now in
    (size c.args.job m c.requires, (unrefused c.args.job m c.requires).four)

pub run_job-turn-requires-clause-lent : goal.run_job-turn-requires-clause-lent
run_job-turn-requires-clause-lent c =
    let m = held c.args.slices.now in
    (all_lent c.args.job m c.requires, may_start c.args.job m c.requires, few_leaves c.args.job m c.requires)

pub overflow_sub-evaluations : goal.overflow_sub-evaluations
overflow_sub-evaluations c =
    left_most c.args.job.input (lengths_of (held c.args.slices.now)) 0 _ _ _ _ _ _ _ c.run_job-turn.ensures.advanced

pub overflow_add-evaluations : goal.overflow_add-evaluations
overflow_add-evaluations c =
    let j = c.args.job in
    let m = held c.args.slices.now in
    let p = judged j m c.requires in
    omega (arith, p.evaluations, few j m c.requires, made_most j.input (laws j m c.requires) _ _ _ _ _ j.cursor _ c.run_job-turn.ensures.advanced p.cursor)

pub job_at-requires : goal.job_at-requires
job_at-requires c =
    let j = c.args.job in
    let m = held c.args.slices.now in
    let p = judged j m c.requires in (
      omega (
        arith,
        active_within j.input (size j m c.requires),
        leaves_after j.input (laws j m c.requires) _ _ _ _ _ j.cursor _ c.run_job-turn.ensures.advanced p.cursor (all_lent j m c.requires).corners p.at_least p.at_most,
      ),
      (size j m c.requires).leaf_most,
    )

pub returns-clause-next : goal.returns-clause-next
returns-clause-next c =
    let j = c.args.job in
    let m = held c.args.slices.now in
    let work = c.run_job-turn in
    let engine = engine_after j.input j.lengths j.counts.evaluations c.args.budget j.counts.leaves _ m _ _ work.result work.ensures.advanced in
    ap (λ j. Some j) (c.job_at.ensures ∙ job_same j.input work.result refl (ap (λ x. x.grid) (judged j m c.requires).counts) refl)
    ∙ sym (ap (λ e. e.job) engine)

pub returns-clause-memory : goal.returns-clause-memory
returns-clause-memory c =
    let j = c.args.job in
    let work = c.run_job-turn in
    sym (ap (λ e. e.memory) (engine_after j.input j.lengths j.counts.evaluations c.args.budget j.counts.leaves _ (held c.args.slices.now) _ _ work.result work.ensures.advanced))
