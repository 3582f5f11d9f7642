-- The parts of a model that cause 4 passes have its value.
use Rattle.std.proofs.Common.{◌∙◌, sym, ap}
use Rattle.std.specs.Prelude.{Ok}
use Rattle.causes.specs.First.{first_of}
use Rattle.model.specs.Model.{evaluation_of}
use Rattle.model.proofs.Accepted.{accepted_value}
use Rattle.model.proofs.evaluations.evaluate_at_coord.Goals as goal

pub returns-then-cause_four : goal.returns-then-cause_four
unfolding evaluation_of first_of
returns-then-cause_four c = simp (sym c.cause_four.ensures ∙ c.if-cause_four.true)

pub returns : goal.returns
unfolding evaluation_of first_of
returns c =
    let a = c.args in
    let passed = sym c.cause_four.ensures ∙ c.if-cause_four.false in
    simp passed (ap Ok (c.evaluate_parts.ensures.answer ∙ rw c.new.ensures (accepted_value a.model.now passed a.x a.y a.z)))
