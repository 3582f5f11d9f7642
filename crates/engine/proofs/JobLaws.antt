-- A job's plan, from its own model.
use Rattle.std.proofs.Common.{◌≡◌, ℕ, false, [], sym, ap, subst}
use mathlib.Core.Path.{fun_ext}
use Rattle.model.specs.Model.{refused_by_four}
use Rattle.model.proofs.Accepted.{accepted_value}
use Rattle.schedule.specs.Plan.{Plan}
use Rattle.schedule.specs.declared.Cursor.{Cursor}
use Rattle.schedule.specs.Resume.{events_from}
use Rattle.schedule.specs.Memory.{Memory}
use Rattle.schedule.specs.Totals.{active_all}
use Rattle.input.specs.declared.Input.{Input}
use Rattle.engine.specs.declared.Progress.{Progress}
use Rattle.rows.specs.Inner.ModelValue.{model_at}
use Rattle.plans.specs.Plan.{plan_with, plan_of, decide_by}
use Rattle.engine.specs.Inner.Progress.{Advanced, reading_in}

-- a model of any contents has an accepted one's value, so it gives the input's plan
pub same_plan : (i : Input) → refused_by_four i.model ≡ false → plan_of i ≡ plan_with i.grid (decide_by i.band) (model_at i.model)
unfolding model_at
same_plan i passed =
    ap (plan_with i.grid (decide_by i.band)) (fun_ext (λ x. fun_ext (λ y. fun_ext (λ z. sym (accepted_value i.model passed x y z)))))

-- what a plan comes to is what the same plan comes to
pub with_plan : (P Q : Plan) (b leaves : ℕ) (a : Cursor) (m : Memory) {m₁ : Memory} {r : Progress} → P ≡ Q
    → Advanced Q b leaves m m₁ (events_from Q a (reading_in m)) [] r (active_all Q) → Advanced P b leaves m m₁ (events_from P a (reading_in m)) [] r (active_all P)
with_plan P Q b leaves a m {m₁} {r} same = subst (λ R. Advanced R b leaves m m₁ (events_from R a (reading_in m)) [] r (active_all R)) (sym same)
