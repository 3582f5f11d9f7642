-- DEMAND 3 for the C interface: its calls implement the engine, so the ledger theorem holds of every list of them. specs/Demand has the statements.
use Prim.Native.Nat.{ℕ, zero, suc, ◌-◌, ◌<◌}
use mathlib.Core.Path.{◌≡◌, refl, sym, ap, ap₂, subst, ◌∙◌}
use mathlib.Core.Bool.{Bool, true, false, cond}
use mathlib.Core.List.{List, map}
use native.Mathlib.Omega.{arith}
use lib.Ieee.{Float}
use lib.ListN.{length, get_or, length-replicate}
use Rattle.lists.proofs.Tables.{length_tabulate}
use Rattle.float.specs.Zero.{plus_zero}
use Rattle.model.specs.declared.Part.TheVariants.{Constant}
use Rattle.model.specs.declared.ModelComponent.{ModelComponent}
use Rattle.model.specs.Flat.{Flat, flat_of}
use Rattle.model.proofs.Accepted.{count_le}
use Rattle.schedule.specs.Memory.{Memory}
use Rattle.input.specs.declared.Lengths.{Lengths}
use Rattle.schedule.specs.Opened.{lengths_of, state_at}
use Rattle.std.specs.Prelude.{Ok, Err, Option, Some, None}
use Rattle.std.proofs.lemmas.Option.{same_Some}
use Rattle.causes.specs.declared.Cause.{Cause}
use Rattle.causes.specs.declared.Cause.TheVariants.{NoJob, ImpossibleRecord, Walk}
use Rattle.causes.specs.All.{all_causes}
use Rattle.causes.proofs.All.{number_above, cause_at}
use Rattle.causes.specs.Number.{number_of}
use Rattle.schedule.specs.Calls.{Answer, Reply, opens, steps, run}
use Rattle.schedule.specs.Engine.{Engine, advanced, engine_call, engine_open}
use Rattle.schedule.specs.Possible.{impossible}
use Rattle.schedule.specs.Ledger.{no_entry, entry}
use Rattle.schedule.specs.BudgetSum.{budget_sum}
use Rattle.schedule.specs.Implements.{Implements}
use Rattle.schedule.proofs.Implements.{implements_ledger, implements_drop, implements_elements, implements_finished, implements_numbered}
use Rattle.schedule.proofs.Possible.{possible}
use Rattle.input.specs.declared.Input.{Input}
use Rattle.schedule.specs.declared.Job.{Job}
use Rattle.plans.specs.Plan.{plan_of}
use Rattle.plans.specs.Sparse.{sparse}
use Rattle.field_host.specs.NoJob.{no_model, no_job}
use Rattle.sparse_field.specs.Calls.{called}
use Rattle.sparse_field.proofs.Opening.{sized, nothing}
use Rattle.plans.proofs.Lawful.{sparse_laws, long_enough}
use Rattle.plans.proofs.OwnCorners.{own_corners, constant_not_leaf}
use Rattle.sparse_field.proofs.CallLaws.{refused_by, accepted_with, step_none, step_impossible, step_accepted, drop_accepted}
use Rattle.field_host.specs.Given.{input_given}
use Rattle.field_host.specs.Carried.{Carried, input_in, fits, flagged, job_given, decoded}
use Rattle.field_host.specs.Answers.{outcome_number}
use Rattle.field_host.specs.Hosted.{left_by, carried_after, hosted}
use Rattle.field_host.specs.Demand as demand
use Rattle.field_host.specs.Demand.{HostDemandThree, HostDropLeavesZeros, HostEqualBudgets, HostFinishedField, HostLeavesNumbered}
use Rattle.field_host.specs.HostLists.{HostCall, opens_with, steps_by, drops_all, call_of, Station, answer_of, on_station, engine_at}
use Rattle.field_host.proofs.RecordBack.{Codable, record_back}
use Rattle.field_host.proofs.Unread.{no_flag}

-- ---- inputs that arrays carry

-- an input without a cause
no_cause_codable : (i : Input) (l : Lengths) → sparse.answer l i ≡ Ok tt → length i.model.parts ≡ 64
    → (i.grid.inner < 4294967296) × (i.grid.leaf < 4294967296) × (i.model.count < 4294967296) × (length i.model.parts ≡ 64)
no_cause_codable i l none long =
    let free = nothing i l none in
    let size = sized i free in
    (omega (arith, size.inner_most), omega (arith, size.leaf_most), omega (arith, count_le i.model free.four), long)

given_long : (s : List Float) (inner leaf : ℕ) (l : Flat) (count : ℕ) → length (input_given s inner leaf l count).model.parts ≡ 64
unfolding input_given
given_long s inner leaf l count = length_tabulate 64 _

-- a model without parts
none_long : length no_model.parts ≡ 64
none_long = length-replicate {A = ModelComponent} 64 (record { part = Constant plus_zero })

-- a job that arrays read as has 64 parts
decoded_long : (c : Carried) (j : Job) → decoded c ≡ Some j → length j.input.model.parts ≡ 64
unfolding decoded
decoded_long c = by (flagged c.words) (fits c.words)
  where
    by : (a b : Bool) (j : Job) → cond a (Some (cond b (job_given (input_in c) c.words) no_job)) None ≡ Some j → length j.input.model.parts ≡ 64
    by true true j is =
        ap (λ x. length x.input.model.parts) (sym (same_Some _ j is))
        ∙ given_long c.settings (get_or c.words 1 0) (get_or c.words 2 0) (flat_of c.parts c.reals) (get_or c.words 3 0)
    by true false j is = ap (λ x. length x.input.model.parts) (sym (same_Some _ j is)) ∙ none_long
    by false b j is = cc

-- a cause is that of its number
cause_back : (cause : Cause) → answer_of (number_of cause) ≡ Err cause
cause_back cause = by (number_of cause) (number_above cause) (cause_at cause Walk)
  where
    by : (n : ℕ) → 0 < n → get_or all_causes (n - 1) Walk ≡ cause → answer_of n ≡ Err cause
    by zero above at = absurd (omega arith)
    by (suc n) above at =
        let back : n ≡ suc n - 1 = omega arith in
        ap (λ x. Err x) (ap (λ k. get_or all_causes k Walk) back ∙ at)

-- ---- one call

module _ (s : Station) where
  abbrev old : Carried
  old = s.carried

  abbrev found : Option Job
  found = decoded s.carried

  abbrev m : Memory
  m = s.memory

  -- of what a call hands back: its number is its answer, and the arrays read as its record
  record HandedOn (h : Reply Engine) : Type 0 where
    answer : answer_of (outcome_number h.answer) ≡ h.answer
    next : decoded (carried_after h.answer h.next.job old) ≡ h.next.job

  refused_on : (cause : Cause) → HandedOn (refused_by cause found m)
  unfolding left_by
  refused_on cause = record { answer = cause_back cause; next = refl }

  accepted_on : (j : Job) (x : Memory) → Codable (Some j) → HandedOn (accepted_with (record { job = Some j; memory = x }))
  unfolding left_by
  accepted_on j x c = record { answer = refl; next = record_back (Some j) c }

  dropped_on : (x : Memory) → HandedOn (accepted_with (record { job = None; memory = x }))
  unfolding left_by
  dropped_on x = record { answer = refl; next = record_back None tt }

  open_on : (i : Input) → length i.model.parts ≡ 64 → HandedOn (called (opens i) found m)
  unfolding engine_call engine_open advanced
  open_on i long = by (sparse.answer (lengths_of m) i) refl
    where
      by : (a : Answer) → sparse.answer (lengths_of m) i ≡ a → HandedOn (engine_open sparse i (engine_at s) a)
      by (Ok u) none = accepted_on _ _ (no_cause_codable i (lengths_of m) none long)
      by (Err cause) some = refused_on cause

  step_on : (n : ℕ) → HandedOn (called (steps n) found m)
  unfolding advanced
  step_on n = by found refl
    where
      judged : (j : Job) (b : Bool) → found ≡ Some j → impossible sparse j m ≡ b → HandedOn (called (steps n) found m)
      judged j true is e =
          subst (λ r. HandedOn (called (steps n) r m)) (sym is)
          (subst HandedOn (sym (step_impossible n j m e)) (subst (λ r. HandedOn (refused_by ImpossibleRecord r m)) is (refused_on ImpossibleRecord)))
      judged j false is e =
          subst (λ r. HandedOn (called (steps n) r m)) (sym is)
          (subst HandedOn (sym (step_accepted n j m e))
          (accepted_on _ _ (no_cause_codable j.input (lengths_of m) (possible sparse j m e).accepted (decoded_long old j is))))

      by : (r : Option Job) → found ≡ r → HandedOn (called (steps n) found m)
      by (Some j) is = judged j (impossible sparse j m) is refl
      by None is =
          subst (λ r. HandedOn (called (steps n) r m)) (sym is)
          (subst HandedOn (sym (step_none n m)) (subst (λ r. HandedOn (refused_by NoJob r m)) is (refused_on NoJob)))

  handed_on : (c : HostCall) → HandedOn (called (call_of c) found m)
  handed_on (opens_with settings inner leaf l count) =
      open_on (input_given settings inner leaf l count) (given_long settings inner leaf l count)
  handed_on (steps_by n) = step_on n
  handed_on drops_all = subst HandedOn (sym (drop_accepted found m)) (dropped_on _)

pub host_implemented : Implements sparse HostCall Station call_of engine_at on_station
unfolding hosted
host_implemented = record {
  answer = λ c s. (handed_on s c).answer;
  next = λ c s t. record { job = (handed_on s c).next t; memory = (called (call_of c) (decoded s.carried) s.memory).next.memory };
}

-- ---- the theorem, and what belongs to it

pub host_demand_three : HostDemandThree
host_demand_three cs s none = implements_ledger sparse HostCall Station call_of engine_at on_station host_implemented sparse_laws s (no_flag s.carried none) cs

pub host_dropped : HostDropLeavesZeros
host_dropped cs s none =
    implements_drop sparse HostCall Station call_of engine_at on_station host_implemented sparse_laws s (no_flag s.carried none) cs drops_all refl

elements : (cs : List HostCall) (s : Station) → demand.NoJob s → (i : Input) (n : ℕ) → budget_sum sparse (lengths_of s.memory) (map call_of cs) no_entry ≡ entry i n
    → (run on_station cs s).last.memory ≡ (state_at (plan_of i) (lengths_of s.memory) n).memory
elements cs s none = implements_elements sparse HostCall Station call_of engine_at on_station host_implemented sparse_laws s (no_flag s.carried none) cs

pub host_equal_elements : HostEqualBudgets
host_equal_elements cs₁ cs₂ s₁ s₂ none₁ none₂ lengths i₁ i₂ n plans budgets₁ budgets₂ =
    elements cs₁ s₁ none₁ i₁ n budgets₁ ∙ ap₂ (λ P l. (state_at P l n).memory) plans lengths ∙ sym (elements cs₂ s₂ none₂ i₂ n budgets₂)

pub host_finished_field : HostFinishedField
host_finished_field cs s none j opened ends = (
  implements_finished sparse HostCall Station call_of engine_at on_station host_implemented sparse_laws s (no_flag s.carried none) long_enough cs j opened ends,
  own_corners j.input,
)

pub host_leaves_numbered : HostLeavesNumbered
host_leaves_numbered cs s none =
    implements_numbered sparse HostCall Station call_of engine_at on_station host_implemented sparse_laws s (no_flag s.carried none) long_enough constant_not_leaf cs
