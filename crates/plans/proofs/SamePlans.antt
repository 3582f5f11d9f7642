-- Inputs that differ in parts past the count alone have one plan.
use mathlib.Core.Path.{◌≡◌, ap, ◌∙◌}
use mathlib.Core.List.{map}
use Prim.Native.Nat.{ℕ}
use Rattle.model.specs.Part.{part_in}
use Rattle.model.specs.Model.{model_value}
use Rattle.model.proofs.SameParts.{same_value}
use Rattle.input.specs.declared.Input.{Input}
use Rattle.plans.specs.Plan.{plan_with, decide_by, value_of, plan_of}
use Rattle.plans.specs.SameInputs.{SameInputs}

pub same_plans : (i j : Input) → SameInputs i j → plan_of i ≡ plan_of j
same_plans i j same =
    let ps = map part_in i.model.parts in
    let qs = map part_in j.model.parts in
    let value : value_of i.model ≡ value_of j.model =
    λ t x y z. (same_value ps qs x y z i.model.count same.parts ∙ ap (λ (n : ℕ). model_value qs n x y z) same.count) t in
    λ t. plan_with (same.grid t) (decide_by (same.band t)) (value t)
