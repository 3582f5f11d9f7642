-- `line_among` meets its contract.
use Rattle.std.proofs.Common.{◌∙◌, arith}
use Rattle.job_text.proofs.PartLaws.{part_fields}
use Rattle.job_text.proofs.PartTurns.{among_off, among_found, among_none}
use Rattle.job_text.proofs.parts.line_among.Goals as goal

pub read_form-requires : goal.read_form-requires
read_form-requires c = (omega arith, rw c.form.ensures (part_fields _))

pub returns-in-Some : goal.returns-in-Some
returns-in-Some c =
    let found = rw c.form.ensures at c.in-Some.ensures.line in
    among_found _ _ _ c.loop-kind-test.true _ _ found ∙ c.loop-kind.invariant

pub loop-kind-preserved : goal.loop-kind-preserved
loop-kind-preserved c =
    let is_off = rw c.form.ensures at c.in_default.ensures.line in
    among_off _ _ _ c.loop-kind-test.true is_off ∙ c.loop-kind.invariant

pub returns : goal.returns
returns c = among_none _ _ _ c.loop-kind.auto.kind-index-end c.loop-kind-test.false ∙ c.loop-kind.invariant
