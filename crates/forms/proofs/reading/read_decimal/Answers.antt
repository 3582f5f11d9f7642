-- `read_decimal` meets its contract: one law for each way out.
use Rattle.std.proofs.Common.{arith, sym, ◌∙◌, ap}
use Rattle.forms.specs.Answers.{front_in}
use Rattle.forms.proofs.Turns.{front_ended, front_nought, front_first, front_large, front_other}
use Rattle.forms.proofs.reading.read_decimal.Goals as goal

pub returns-in_err-b : goal.returns-in_err-b
returns-in_err-b c = ap front_in c.from_residual.ensures ∙ front_ended _ _ c.in_err-b.ensures.cases

pub returns-then-b-eq48 : goal.returns-then-b-eq48
returns-then-b-eq48 c = front_nought c.in_ok-b.ensures.cases.0 _ c.if-b-eq48.true

pub returns-in_err-decimal_digit : goal.returns-in_err-decimal_digit
returns-in_err-decimal_digit c =
    ap front_in c.from_residual-in_err-decimal_digit.ensures
    ∙ front_other c.in_ok-b.ensures.cases.0 _ (sym c.decimal_digit.ensures ∙ c.in_err-decimal_digit.was)

pub returns-then-d-limit : goal.returns-then-d-limit
returns-then-d-limit c =
    front_large c.in_ok-b.ensures.cases.0 (sym c.decimal_digit.ensures ∙ c.in_ok-decimal_digit.was) _ c.if-b-eq48.false
    (omega (arith, c.from-d.ensures, c.if-d-limit.true))

pub returns : goal.returns
returns c =
    c.digits_after.ensures
    ∙ rw c.from-d.ensures
    (front_first c.in_ok-b.ensures.cases.0 (sym c.decimal_digit.ensures ∙ c.in_ok-decimal_digit.was) _ c.if-b-eq48.false
    (omega (arith, c.from-d.ensures, c.if-d-limit.false)))
