-- `nan_pattern` meets its contract: by the count, none, or more than the array holds.
use Rattle.std.proofs.Common.{◌≡◌, length, sym, ap, ◌∙◌, arith, rules}
use Rattle.std.proofs.lemmas.List.{length-map}
use Rattle.model.specs.Part.{part_in}
use Rattle.job_text.specs.NanBits.{nan_pattern}
use Rattle.job_text.proofs.NanLaws.{nan_none, nan_past, nan_front}
use Rattle.job_text.proofs.nan.nan_pattern.Goals as goal

pub returns-in_default : goal.returns-in_default
returns-in_default c =
    let job = c.args.job in
    let past = c.in_default.ensures.cases in
    sym (nan_past _ _ job.input.model.count (omega (arith, length-map job.input.model.parts part_in)) (omega arith))

pub returns-then-is_empty : goal.returns-then-is_empty
returns-then-is_empty c =
    let cases = c.in-Some.ensures.cases in
    let none : length c.in-Some.parts.now ≡ 0 = search rules in
    let count : c.args.job.input.model.count ≡ 0 = omega arith in
    sym (ap (nan_pattern _ _) count ∙ nan_none _ _)

pub returns : goal.returns
returns c =
    let cases = c.in-Some.ensures.cases in
    c.last_nan.ensures ∙ nan_front _ _ _ _ cases.0 cases.1
