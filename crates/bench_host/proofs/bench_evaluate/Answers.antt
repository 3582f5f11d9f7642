-- The parts that the arrays stand for are those of the model that they make.
use Rattle.std.proofs.Common.{◌≡◌, ◌∙◌, ◌++◌, ℕ, min, drop, ap, arith}
use Rattle.model.specs.Flat.{flat_of}
use Rattle.model.specs.Flat as flat
use Rattle.model.specs.Model.{values_to, model_value, parts_in, parts_of}
use Rattle.field_host.specs.Given.{model_given}
use Rattle.field_host.proofs.GivenParts.{same_parts}
use Rattle.bench_host.proofs.bench_evaluate.Goals as goal

pub returns-clause-answer : goal.returns-clause-answer
returns-clause-answer c =
    let a = c.args in
    let l = flat_of a.words.now a.numbers.now in
    let n = min a.count 64 in
    let cut : n ≡ min n 64 = omega arith in
    let parts : flat.parts_of l n ≡ parts_of (parts_in (model_given l n)) n = same_parts l n n (omega arith) in
    c.evaluate_flat.ensures.answer
    ∙ (λ i. model_value (parts i) n a.x a.y a.z)
    ∙ ap (λ (k : ℕ). model_value (parts_of (parts_in (model_given l n)) k) k a.x a.y a.z) cut

pub returns-clause-values : goal.returns-clause-values
returns-clause-values c =
    let a = c.args in
    let l = flat_of a.words.now a.numbers.now in
    let n = min a.count 64 in
    let cut : n ≡ min n 64 = omega arith in
    let parts : flat.parts_of l n ≡ parts_of (parts_in (model_given l n)) n = same_parts l n n (omega arith) in
    c.evaluate_flat.ensures.values
    ∙ (λ i. values_to (parts i) a.x a.y a.z n ++ drop n a.values.now)
    ∙ ap (λ (k : ℕ). values_to (parts_of (parts_in (model_given l n)) k) a.x a.y a.z k ++ drop k a.values.now) cut
