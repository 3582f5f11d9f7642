-- What open answers for a job, and the listing of a job that is opened and given a budget that covers it.
use Prim.Native.Nat.{ℕ, ◌*◌, ◌/◌, ◌≤◌, ◌<◌}
use native.Mathlib.Nat.{mul-div_cancel}
use native.Mathlib.Omega.{arith}
use mathlib.Core.Path.{◌≡◌, refl, sym, ap, subst, ◌∙◌}
use mathlib.Core.List.{List, [], ◌∷◌}
use lib.ListN.{length}
use borrow.Author.Tests.{le-leb}
use Rattle.grid.proofs.BlockLaws.{cube_le}
use Rattle.schedule.specs.Plan.{Plan}
use Rattle.schedule.specs.Memory.{Memory}
use Rattle.schedule.specs.Totals.{leaves_all, total, evaluations_bound}
use Rattle.input.specs.declared.Lengths.{Lengths}
use Rattle.schedule.specs.Opened.{lengths_of, state_at}
use Rattle.schedule.specs.Counts.{counts_with}
use Rattle.schedule.specs.Calls.{opens, steps, Answer}
use Rattle.schedule.specs.Engine.{engine_call, engine_open}
use Rattle.schedule.proofs.AfterFacts.{after}
use Rattle.schedule.proofs.EventCounts.{total_bound}
use Rattle.schedule.proofs.LedgerTheorem.{same_job}
use Rattle.schedule.proofs.Reachable.{job_at, engine_at}
use Rattle.input.specs.declared.Input.{Input}
use Rattle.std.specs.Prelude.{Option}
use Rattle.schedule.specs.declared.Job as schedule
use Rattle.causes.specs.declared.Cause.{Cause}
use Rattle.causes.specs.Number.{number_of}
use Rattle.plans.specs.Plan.{plan_of, plan_with}
use Rattle.plans.specs.Sparse.{sparse}
use Rattle.sparse_field.specs.Calls.{called}
use Rattle.sparse_field.proofs.CallLaws.{accepted_with}
use Rattle.sparse_field.proofs.Opening.{sized, nothing}
use Rattle.plans.proofs.Lawful.{sparse_laws, long_enough}
use Rattle.sparse_field.proofs.WholeJob.{record_after, job_opened, job_finished, finished_possible, finished_cursor, finished_elements}
use Rattle.grid.proofs.LimitLaws.{bound_fits}
use Rattle.forms.specs.Forms.{spell}
use Rattle.job_text.specs.declared.Job.{Job}
use Rattle.std.proofs.Common.{Result, Ok, Err}
use Rattle.job_text.specs.declared.OffForm.{OffForm}
use Rattle.listing.specs.Lines.{refused_form, off_form}
use Rattle.job_text.specs.Reading.{Read, off_at, written, read_text, job_of, reading_of}
use Rattle.job_text.specs.NanBits.{job_nan}
use Rattle.listing.specs.Listing.{plan_listing}
use Rattle.listing.specs.Written.{written as written_of, at_end, put_answer, put_listing}
use Rattle.listing.proofs.ListingFits.{listing_fits, refused_fits, off_fits}
use Rattle.listing.proofs.PlanListing.{written_plan}
use Rattle.listing.specs.Listed.{listed_by, job_listed, read_listed, listed, program_lengths}

-- ---- what open answers

opened_answer : (i : Input) (r : Option schedule.Job) (m : Memory) → (called (opens i) r m).answer ≡ sparse.answer (lengths_of m) i
unfolding engine_call engine_open
opened_answer i r m = by (sparse.answer (lengths_of m) i)
  where
    by : (a : Answer) → (engine_open sparse i (record { job = r; memory = m }) a).answer ≡ a
    by (Ok u) = refl
    by (Err cause) = refl

-- a refused open: its cause's number is printed
module _ (j : Job) (r : Option schedule.Job) (m : Memory) (lengths : lengths_of m ≡ program_lengths) where
  pub listed_refusal : (cause : Cause) → (called (opens j.input) r m).answer ≡ Err cause → job_listed j ≡ spell refused_form (number_of cause ∷ [])
  unfolding job_listed listed_by
  listed_refusal cause e =
      ap (listed_by j) (subst (λ l. sparse.answer l j.input ≡ Err cause) lengths (sym (opened_answer j.input r m) ∙ e))

-- an accepted one: its plan's listing is printed
accepted_listed : (j : Job) → sparse.answer program_lengths j.input ≡ Ok tt → job_listed j ≡ plan_listing (plan_of j.input) (job_nan j)
unfolding job_listed listed_by
accepted_listed j none = ap (listed_by j) none

pub accepted_none : (i : Input) (r : Option schedule.Job) (m : Memory) → (called (opens i) r m).answer ≡ Ok tt → sparse.answer (lengths_of m) i ≡ Ok tt
accepted_none i r m e = sym (opened_answer i r m) ∙ e

-- ---- what is printed, by what a text is read as

pub off_listed : (r : Read) (e : OffForm) → reading_of r ≡ Err e → read_listed r ≡ spell off_form (e.line ∷ [])
unfolding reading_of read_listed
off_listed (off_at k) e is = let same : record { line = k } ≡ e = cc in ap (λ x. spell off_form (x.line ∷ [])) same
off_listed (written w) e is = let z : ◌≡◌ {A = ℕ} 0 1 = cc in absurd (omega arith)

pub on_listed : (r : Read) (j : Job) → reading_of r ≡ Ok j → read_listed r ≡ job_listed j
unfolding reading_of read_listed
on_listed (off_at k) j is = let z : ◌≡◌ {A = ℕ} 0 1 = cc in absurd (omega arith)
on_listed (written w) j is = let same : job_of w ≡ j = cc in ap job_listed same

-- the same of what the code reads
pub off_here : (text : List ℕ) (e : OffForm) → Err e ≡ reading_of (read_text text) → spell off_form (e.line ∷ []) ≡ listed text
unfolding listed
off_here text e is = sym (off_listed (read_text text) e (sym is))

pub on_here : (text : List ℕ) (j : Job) → Ok j ≡ reading_of (read_text text) → job_listed j ≡ listed text
unfolding listed
on_here text j is = sym (on_listed (read_text text) j (sym is))

-- ---- a budget that covers every job

bound_small : (i : Input) (m : Memory) → sparse.answer (lengths_of m) i ≡ Ok tt → evaluations_bound (plan_of i) ≤ 5000000000000
unfolding plan_with evaluations_bound
bound_small i m none = let n = nothing i (lengths_of m) none in (bound_fits i.grid n.two n.five).bound

pub total_small : (i : Input) (m : Memory) → sparse.answer (lengths_of m) i ≡ Ok tt → total (plan_of i) ≤ 18446744073709551615
total_small i m none = omega (arith, total_bound (plan_of i), bound_small i m none)

-- ---- the listing of a finished job

module _ (i : Input) (m : Memory) (none : sparse.answer (lengths_of m) i ≡ Ok tt) where
  abbrev P : Plan
  P = plan_of i

  abbrev l : Lengths
  l = lengths_of m

  abbrev last : Memory
  last = (state_at (plan_of i) (lengths_of m) (total (plan_of i))).memory

  some_points : 0 < (plan_of i).leaf_points
  unfolding plan_with
  some_points = cube_le i.grid.leaf 1 (sized i (nothing i l none)).leaf_least

  -- every leaf is made
  leaves_all_lem : (state_at (plan_of i) (lengths_of m) (total (plan_of i))).leaves ≡ leaves_all (plan_of i)
  unfolding total
  leaves_all_lem =
      let counted = (same_job sparse sparse_laws l i (total P) none (omega arith)).counted.0 (finished_cursor i m none) in
      let n = (state_at P l (total P)).leaves in
      let same : n * P.leaf_points ≡ leaves_all P * P.leaf_points = omega (arith, counted) in
      sym (mul-div_cancel n some_points) ∙ ap (λ k. k / P.leaf_points) same ∙ mul-div_cancel (leaves_all P) some_points

  store_long : leaves_all (plan_of i) * (plan_of i).leaf_points ≤ length (state_at (plan_of i) (lengths_of m) (total (plan_of i))).memory.store
  store_long =
      let a = after P (sparse_laws.plan_laws l i none) l (sparse_laws.enough_corners l i none) (total P) in
      rw (ap (λ k. k.store) a.lengths) (long_enough l i none).store

  pub finished_written : (nan : ℕ) (out : List ℕ)
      → written_of (record_after (lengths_of m) i (total (plan_of i))) nan (state_at (plan_of i) (lengths_of m) (total (plan_of i))).memory out
      ≡ put_listing (plan_listing (plan_of i) nan) out
  finished_written nan out =
      written_plan (job_at sparse l i (total P)) nan last out (finished_possible i m none)
      (ap at_end (finished_cursor i m none))
      (ap (λ n. counts_with P n (total P)) leaves_all_lem)
      (finished_elements i m none)
      store_long

-- ---- a job that is opened and then given a budget that covers it

module _
    (j : Job) (r : Option schedule.Job) (m : Memory) {answer : Answer} (lengths : lengths_of m ≡ program_lengths)
    (answered : answer ≡ (called (opens j.input) r m).answer) where
  -- a refused one
  pub refused_listed : (cause : Cause) → answer ≡ Err cause → spell refused_form (number_of cause ∷ []) ≡ job_listed j
  refused_listed cause is = sym (listed_refusal j r m lengths cause (sym answered ∙ is))

  -- a finished one
  pub finished_listed :
      {r₁ r₂ : Option schedule.Job} {m₁ m₂ : Memory} {nan n : ℕ} → r₁ ≡ (called (opens j.input) r m).next.job
      → m₁ ≡ (called (opens j.input) r m).next.memory → answer ≡ Ok tt → n ≡ 18446744073709551615
      → r₂ ≡ (called (steps n) r₁ m₁).next.job → m₂ ≡ (called (steps n) r₁ m₁).next.memory → nan ≡ job_nan j
      → (out : List ℕ) → written_of r₂ nan m₂ out ≡ put_listing (job_listed j) out
  finished_listed {r₁} {r₂} {m₁} {m₂} {nan} {n} opened after_open accepted all done after-step is_nan out =
      let i = j.input in
      let none = accepted_none i r m (sym answered ∙ accepted) in
      let covered : total (plan_of i) ≤ n = omega (arith, total_small i m none, all) in
      let first = job_opened i m none r in
      let start : r₁ ≡ record_after (lengths_of m) i 0 = opened ∙ ap (λ h. h.next.job) first in
      let memory : m₁ ≡ (state_at (plan_of i) (lengths_of m) 0).memory = after_open ∙ ap (λ h. h.next.memory) first in
      let last : called (steps n) r₁ m₁ ≡ accepted_with (engine_at sparse (lengths_of m) i (total (plan_of i))) =
      ap (λ x. called (steps n) x m₁) start ∙ ap (λ x. called (steps n) (record_after (lengths_of m) i 0) x) memory ∙ job_finished i m none n covered in
      ap (λ x. written_of x nan m₂ out) (done ∙ ap (λ h. h.next.job) last)
      ∙ ap (λ x. written_of (record_after (lengths_of m) i (total (plan_of i))) nan x out) (after-step ∙ ap (λ h. h.next.memory) last)
      ∙ finished_written i m none nan out
      ∙ ap (λ bs. put_listing bs out) (ap (λ x. plan_listing (plan_of i) x) is_nan ∙ sym (accepted_listed j (subst (λ l. sparse.answer l i ≡ Ok tt) lengths none)))

-- ---- what is printed fits the program's bytes

job_fits : (j : Job) → length (job_listed j) ≤ 88176
unfolding job_listed listed_by
job_fits j = by (sparse.answer program_lengths j.input) refl
  where
    by : (a : Answer) → sparse.answer program_lengths j.input ≡ a → length (listed_by j a) ≤ 88176
    by (Ok u) none = listing_fits j.input (job_nan j) none
    by (Err cause) is = omega (arith, refused_fits (number_of cause))

read_fits : (r : Read) → length (read_listed r) ≤ 88176
unfolding read_listed
read_fits (off_at n) = omega (arith, off_fits n)
read_fits (written w) = job_fits (job_of w)

pub listed_fits : (text : List ℕ) → length (listed text) ≤ 88176
unfolding listed
listed_fits text = read_fits (read_text text)

-- so it is not refused where so many are lent
pub whole : (text out : List ℕ) → 88176 ≤ length out → put_answer (listed text) out ≡ Ok (length (listed text))
unfolding put_answer
whole text out enough = rw (le-leb (length (listed text)) (length out) (omega (arith, listed_fits text)))

pub ok_same : {E : Type 0} {x y : ℕ} → ◌≡◌ {A = Result ℕ E} (Ok x) (Ok y) → x ≡ y
ok_same same = cc
