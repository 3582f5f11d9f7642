-- A point more. The parts that the arrays stand for are those of the model that they make.
use Rattle.std.proofs.Common.{◌≡◌, List, min, length, get_or, sym, ap, ◌∙◌, arith}
use Rattle.lists.proofs.Filling.{filled_none, front_store, filled_done}
use Rattle.model.specs.Part.{past}
use Rattle.model.specs.declared.Part.{Part}
use Rattle.model.specs.Flat.{flat_of}
use Rattle.model.specs.Model.{model_value}
use Rattle.field_host.specs.Given.{model_given}
use Rattle.field_host.proofs.GivenParts.{same_parts}
use Rattle.bench_host.specs.Points.{value_at}
use Rattle.bench_host.proofs.bench_values.Goals as goal

pub loop-k-init : goal.loop-k-init
loop-k-init c = sym (filled_none _ _ _)

pub loop-k-preserved : goal.loop-k-preserved
loop-k-preserved c =
    let a = c.args in
    let l = flat_of a.words.now a.numbers.now in
    let n = min a.count 64 in
    let k = c.loop-k.k in
    front_store k (value_at (model_given l a.count) a.px.now a.py.now a.pz.now) a.results.now c.loop-k.invariant
    (c.evaluate_flat.ensures.answer ∙ ap (λ (ps : List Part). model_value ps n (get_or a.px.now k past) (get_or a.py.now k past) (get_or a.pz.now k past)) (same_parts l a.count n (omega arith)))

pub returns : goal.returns
returns c =
    let a = c.args in
    let n = min (min (length a.px.now) (length a.py.now)) (min (length a.pz.now) (length a.results.now)) in
    let last : c.loop-k.k ≡ n = omega arith in
    filled_done 0 (value_at (model_given (flat_of a.words.now a.numbers.now) a.count) a.px.now a.py.now a.pz.now) a.results.now c.loop-k.invariant last
