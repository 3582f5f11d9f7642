-- The parts that the arrays stand for are those of the model that they make.
use Rattle.std.proofs.Common.{◌≡◌, ◌∙◌, min, refl, ap, arith}
use Rattle.model.specs.Flat.{flat_of}
use Rattle.model.specs.Model.{parts_in, parts_of}
use Rattle.model.proofs.FlatParts.{parts_again}
use Rattle.model.proofs.SameRows.{same_rows}
use Rattle.field_host.specs.Given.{model_given}
use Rattle.field_host.proofs.GivenParts.{same_parts}
use Rattle.bench_host.proofs.bench_evaluate_row.Goals as goal

pub returns-clause-values : goal.returns-clause-values
returns-clause-values c =
    let a = c.args in
    let l = flat_of a.words.now a.numbers.now in
    let n = min a.count 64 in
    let cut : n ≡ min n 64 = omega arith in
    c.evaluate_flat_row.ensures
    ∙ same_rows _ _ (parts_again l n ∙ same_parts l n n (omega arith) ∙ ap (parts_of (parts_in (model_given l n))) cut) cut _ _ refl
