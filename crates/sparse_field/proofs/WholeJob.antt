-- A job that is opened and then given a budget that covers it: its record and its memory at the end.
use Prim.Native.Nat.{ℕ, ◌+◌, ◌-◌, ◌≤◌, min}
use native.Mathlib.Omega.{arith}
use mathlib.Core.Path.{◌≡◌, refl, ap, subst, ◌∙◌}
use mathlib.Core.Bool.{false}
use Rattle.std.specs.Prelude.{Ok, Option, Some}
use Rattle.schedule.specs.Plan.{Plan}
use Rattle.schedule.specs.Memory.{Memory}
use Rattle.schedule.specs.Totals.{total}
use Rattle.input.specs.declared.Lengths.{Lengths}
use Rattle.schedule.specs.Opened.{lengths_of, state_at}
use Rattle.schedule.specs.Finished.{Finished}
use Rattle.schedule.specs.declared.Job.{Job}
use Rattle.schedule.specs.declared.Cursor.TheVariants.{End}
use Rattle.schedule.specs.Calls.{opens, steps}
use Rattle.schedule.specs.Ledger.{job_ledger, ledger_open, ledger_step, ledger_call, first_ledger}
use Rattle.schedule.specs.Possible.{impossible}
use Rattle.schedule.proofs.Finished.{finished_memory}
use Rattle.schedule.proofs.LedgerTheorem.{engine_of, LedgerInvariant, same_outcome, same_job}
use Rattle.schedule.proofs.Reachable.{job_at, engine_at, advanced_open, reachable_possible}
use Rattle.input.specs.declared.Input.{Input}
use Rattle.plans.specs.Plan.{plan_of}
use Rattle.plans.specs.Sparse.{sparse}
use Rattle.sparse_field.specs.Calls.{called}
use Rattle.sparse_field.proofs.CallLaws.{accepted_with, open_accepted}
use Rattle.plans.proofs.Lawful.{sparse_laws, long_enough}

-- the record of an input's job after k evaluations
abbrev pub record_after : Lengths → Input → ℕ → Option Job
record_after l i k = Some (job_at sparse l i k)

module _ (i : Input) (m : Memory) (none : sparse.answer (lengths_of m) i ≡ Ok tt) where
  abbrev P : Plan
  P = plan_of i

  abbrev l : Lengths
  l = lengths_of m

  -- open
  pub job_opened : (r : Option Job) → called (opens i) r m ≡ accepted_with (engine_at sparse (lengths_of m) i 0)
  job_opened r = open_accepted i r m none ∙ ap accepted_with (advanced_open sparse l i)

  at_start : LedgerInvariant sparse (lengths_of m) (job_ledger sparse (lengths_of m) i 0)
  unfolding ledger_call ledger_open
  at_start =
      subst (λ n. LedgerInvariant sparse l (ledger_open sparse i (first_ledger m) n).next) none
      (same_outcome sparse sparse_laws l (opens i) (first_ledger m) (record { lengths = refl; holds = tt })).invariant

  -- a step from there
  pub job_finished : (n : ℕ) → total (plan_of i) ≤ n
      → called (steps n) (record_after (lengths_of m) i 0) (state_at (plan_of i) (lengths_of m) 0).memory
      ≡ accepted_with (engine_at sparse (lengths_of m) i (total (plan_of i)))
  unfolding ledger_call ledger_step
  job_finished n enough =
      let all : 0 + min n (total P - 0) ≡ total P = omega arith in
      (same_outcome sparse sparse_laws l (steps n) (job_ledger sparse l i 0) at_start).same
      ∙ ap (λ k. accepted_with (engine_of sparse l (job_ledger sparse (lengths_of (state_at P l 0).memory) i k))) all
      ∙ ap (λ d. accepted_with (engine_of sparse l (job_ledger sparse d i (total P)))) at_start.lengths

  -- what such a record and memory are
  pub finished_possible : impossible sparse (job_at sparse (lengths_of m) i (total (plan_of i)))
      (state_at (plan_of i) (lengths_of m) (total (plan_of i))).memory ≡ false
  finished_possible = reachable_possible sparse l i sparse_laws none (total P) (omega arith)

  pub finished_cursor : (job_at sparse (lengths_of m) i (total (plan_of i))).cursor ≡ End
  finished_cursor = (same_job sparse sparse_laws l i (total P) none (omega arith)).finished.1 refl

  pub finished_elements : Finished (plan_of i) (state_at (plan_of i) (lengths_of m) (total (plan_of i))).memory
  finished_elements = finished_memory P l (long_enough l i none)
