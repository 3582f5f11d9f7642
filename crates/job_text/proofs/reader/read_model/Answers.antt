-- `read_model` meets its contract.
use Rattle.std.proofs.Common.{◌≡◌, ◌<◌, length, sym, ap, ◌∙◌, Err, rules}
use Rattle.job_text.specs.Inner.TextAnswers.{part_in}
use Rattle.job_text.proofs.Gathering.{gathered_first, gathered_done, gathered_turn, left_full, left_off}
use Rattle.job_text.proofs.OrOff.{read_ok, read_none, read_off, passed_on}
use Rattle.job_text.proofs.PartLaws.{part_own, pattern_own}
use Rattle.job_text.proofs.PartTurns.{line_fits}
use Rattle.job_text.proofs.reader.read_model.Goals as goal

pub loop-rest-init : goal.loop-rest-init
loop-rest-init c = gathered_first _

pub returns-then-count-ge64 : goal.returns-then-count-ge64
returns-then-count-ge64 c =
    let more : 0 < length c.loop-rest.rest.now = search rules in
    left_full c.loop-rest.invariant more c.if-count-ge64.true _ _

pub returns-in_err-line : goal.returns-in_err-line
returns-in_err-line c =
    let more : 0 < length c.loop-rest.rest.now = search rules in
    let none = read_none c.part_line.result _ c.ok_or.ensures.value c.in_err-line.was in
    passed_on _ c.from_residual.ensures.1
    ∙ ap Err (read_off c.part_line.result c.ok_or.ensures.value c.in_err-line.was)
    ∙ left_off c.loop-rest.invariant more c.if-count-ge64.false (sym (ap part_in none) ∙ c.part_line.ensures) _ _

pub part_of-requires : goal.part_of-requires
part_of-requires c =
    let some = read_ok c.part_line.result _ c.ok_or.ensures.value c.in_ok-line.was in
    line_fits _ _ _ _ (sym (ap part_in some) ∙ c.part_line.ensures)

pub loop-rest-preserved : goal.loop-rest-preserved
loop-rest-preserved c =
    let more : 0 < length c.loop-rest.rest.now = search rules in
    let some = read_ok c.part_line.result _ c.ok_or.ensures.value c.in_ok-line.was in
    gathered_turn c.loop-rest.invariant more c.if-count-ge64.false _ _ (sym (ap part_in some) ∙ c.part_line.ensures)
    _ (c.part_of.ensures ∙ sym (part_own _ _)) _ (c.pattern_of.ensures ∙ sym (pattern_own _ _))

pub returns : goal.returns
returns c =
    let ended : length c.loop-rest.rest.now ≡ 0 = search rules in
    gathered_done c.loop-rest.invariant _ _ ended
