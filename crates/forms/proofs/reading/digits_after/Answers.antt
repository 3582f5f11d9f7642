-- `digits_after` meets its contract.
use Rattle.std.proofs.Common.{◌≡◌, ◌+◌, ◌*◌, arith, ap, sym, ◌∙◌}
use Rattle.forms.specs.Answers.{front_in}
use Rattle.forms.proofs.Turns.{after_turn, after_past, after_other, after_all}
use Rattle.forms.proofs.reading.digits_after.Goals.{in-Some+in_default-decimal_digit, in_default}
use Rattle.forms.proofs.reading.digits_after.Goals as goal

-- a product or a sum that does not fit is above the limit
pub returns-in_err-checked_mul : goal.returns-in_err-checked_mul
returns-in_err-checked_mul c =
    ap front_in c.from_residual.ensures
    ∙ after_past c.in-Some.ensures.cases.0 (sym c.decimal_digit.ensures ∙ c.in-Some-decimal_digit.is) _ c.loop-b.value
    (omega (arith, c.ranges.limit, c.in_err-checked_mul.ensures))
    ∙ c.loop-b.invariant.whole

pub returns-in_err-more : goal.returns-in_err-more
returns-in_err-more c =
    ap front_in c.from_residual-in_err-more.ensures
    ∙ after_past c.in-Some.ensures.cases.0 (sym c.decimal_digit.ensures ∙ c.in-Some-decimal_digit.is) _ c.loop-b.value
    (omega (arith, c.ranges.limit, c.from.ensures, c.in_ok-checked_mul.ensures, c.in_err-more.ensures))
    ∙ c.loop-b.invariant.whole

pub returns-then-more-limit : goal.returns-then-more-limit
returns-then-more-limit c =
    after_past c.in-Some.ensures.cases.0 (sym c.decimal_digit.ensures ∙ c.in-Some-decimal_digit.is) _ c.loop-b.value
    (omega (arith, c.from.ensures, c.in_ok-checked_mul.ensures, c.in_ok-more.ensures, c.if-more-limit.true))
    ∙ c.loop-b.invariant.whole

pub loop-b-preserved : goal.loop-b-preserved
loop-b-preserved c =
    let sum : c.in_ok-more.more ≡ c.loop-b.value * 10 + c.in-Some-decimal_digit.d =
    omega (arith, c.from.ensures, c.in_ok-checked_mul.ensures, c.in_ok-more.ensures) in
    rw sum (record {
      whole =
          after_turn c.in-Some.ensures.cases.0 (sym c.decimal_digit.ensures ∙ c.in-Some-decimal_digit.is) _ c.loop-b.value
          (omega arith)
          ∙ c.loop-b.invariant.whole;
      within = omega arith;
    })

pub returns : goal.returns
returns c = elim c.match-split_first.branch [
  | in-Some+in_default-decimal_digit w ↦
      after_other w.in-Some.ensures.cases.0 _ c.loop-b.value (sym w.decimal_digit.ensures ∙ w.in_default-decimal_digit.is)
      ∙ c.loop-b.invariant.whole
  | in_default w ↦ after_all _ _ _ w.in_default.ensures.cases ∙ c.loop-b.invariant.whole
]
