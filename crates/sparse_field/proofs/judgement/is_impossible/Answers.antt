-- The tests in turn, on the lengths of the slices.
use Rattle.std.proofs.Common.{◌≡◌, Bool, true, false, not, ◌&&◌, is_err, eqb, refl, sym, ap, ◌∙◌}
use Rattle.input.specs.declared.Input.{Input}
use Rattle.input.specs.declared.Lengths.{Lengths}
use Rattle.input.specs.Causes.{refusal_of}
use Rattle.grid.specs.Limits.{children_of}
use Rattle.plans.specs.Plan.{plan_with}
use Rattle.schedule.specs.Calls.{Answer}
use Rattle.schedule.specs.Lent.{viewed}
use Rattle.schedule.specs.Possible.{same_lengths}
use Rattle.sparse_field.proofs.JudgedRecords.{impossible_cause, possible_input, impossible_lengths, impossible_kinds, right_kinds, impossible_progress}
use Rattle.sparse_field.proofs.judgement.is_impossible.Goals as goal

-- whether a cause of open applies
caused : (i : Input) {l l' : Lengths} {r : Answer} {b t : Bool} → l ≡ l' → r ≡ refusal_of i l → b ≡ is_err r → b ≡ t → is_err (refusal_of i l') ≡ t
caused i lengths refusal tested is = ap (λ l. is_err (refusal_of i l)) (sym lengths) ∙ ap is_err (sym refusal) ∙ sym tested ∙ is

-- five tests, by their first that fails
nested : (a b c d e : Bool) → (a && (b && (c && (d && e)))) ≡ (a && b && c && d && e)
nested false b c d e = refl
nested true false c d e = refl
nested true true false d e = refl
nested true true true false e = refl
nested true true true true e = refl

-- whether the lengths are other ones
other : (a : Lengths) {l l' : Lengths} {b t : Bool} → l ≡ l'
    → b ≡ not (eqb a.kinds l.kinds && (eqb a.numbers l.numbers && (eqb a.places l.places && (eqb a.store l.store && eqb a.corners l.corners))))
    → b ≡ t → not (same_lengths a l') ≡ t
unfolding same_lengths
other a {l} lengths tested is =
    ap (λ l. not (same_lengths a l)) (sym lengths)
    ∙ ap not (sym (nested (eqb a.kinds l.kinds) (eqb a.numbers l.numbers) (eqb a.places l.places) (eqb a.store l.store) (eqb a.corners l.corners)))
    ∙ sym tested ∙ is

pub returns-then-is_err : goal.returns-then-is_err
returns-then-is_err c =
    let a = c.args in
    impossible_cause a.job.now (viewed a.slices.now)
    (caused _ c.lengths-lengths.ensures c.open_refusal.ensures c.is_err.ensures.value c.if-is_err.true)

pub returns-then-ne : goal.returns-then-ne
returns-then-ne c =
    let a = c.args in
    impossible_lengths a.job.now (viewed a.slices.now)
    (caused _ c.lengths-lengths.ensures c.open_refusal.ensures c.is_err.ensures.value c.if-is_err.false)
    (other a.job.now.lengths c.lengths-lengths.ensures c.ne.ensures c.if-ne.true)

pub invariant_of-grid : goal.invariant_of-grid
invariant_of-grid c =
    let n = possible_input c.args.job.now (viewed c.args.slices.now)
    (caused _ c.lengths-lengths.ensures c.open_refusal.ensures c.is_err.ensures.value c.if-is_err.false) in
    record { two = n.two; five = n.five }

pub kinds_right-requires : goal.kinds_right-requires
unfolding children_of
kinds_right-requires c =
    (possible_input c.args.job.now (viewed c.args.slices.now)
    (caused _ c.lengths-lengths.ensures c.open_refusal.ensures c.is_err.ensures.value c.if-is_err.false)).lent.kinds

pub returns-then-not-kinds_right : goal.returns-then-not-kinds_right
unfolding plan_with
returns-then-not-kinds_right c =
    impossible_kinds c.args.job.now (viewed c.args.slices.now)
    (caused _ c.lengths-lengths.ensures c.open_refusal.ensures c.is_err.ensures.value c.if-is_err.false)
    (other c.args.job.now.lengths c.lengths-lengths.ensures c.ne.ensures c.if-ne.false)
    (ap not (sym c.kinds_right.ensures ∙ c.if-not-kinds_right.true))

pub invariant_of-right : goal.invariant_of-right
unfolding plan_with
invariant_of-right c =
    let cause = caused _ c.lengths-lengths.ensures c.open_refusal.ensures c.is_err.ensures.value c.if-is_err.false in
    record {
      long = (possible_input c.args.job.now (viewed c.args.slices.now) cause).lent.kinds;
      right = right_kinds c.args.job.now (viewed c.args.slices.now) cause
          (other c.args.job.now.lengths c.lengths-lengths.ensures c.ne.ensures c.if-ne.false)
          (ap not (sym c.kinds_right.ensures ∙ c.if-not-kinds_right.false));
    }

pub returns : goal.returns
unfolding plan_with
returns c =
    impossible_progress c.args.job.now (viewed c.args.slices.now)
    (caused _ c.lengths-lengths.ensures c.open_refusal.ensures c.is_err.ensures.value c.if-is_err.false)
    (other c.args.job.now.lengths c.lengths-lengths.ensures c.ne.ensures c.if-ne.false)
    (ap not (sym c.kinds_right.ensures ∙ c.if-not-kinds_right.false))
    c.wrong_progress.ensures
