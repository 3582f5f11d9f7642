-- What a call hands back, from where its work has come to.
use Prim.Native.Nat.{ℕ, ◌+◌, ◌-◌, ◌≤◌}
use mathlib.Core.Path.{◌≡◌, refl, ap, ◌∙◌}
use mathlib.Core.List.{List, []}
use native.Mathlib.Omega.{arith}
use Rattle.schedule.specs.Schedule.{Event}
use Rattle.schedule.specs.Plan.{Plan}
use Rattle.schedule.specs.Resume.{cursor_of, events_from}
use Rattle.schedule.specs.Split.{split, evaluations}
use Rattle.schedule.specs.Memory.{Memory, State, apply_all}
use lib.ListN.{length}
use Rattle.grid.specs.declared.GridCounts.{GridCounts}
use Rattle.input.specs.declared.Lengths.{Lengths}
use Rattle.grid.specs.Blocks.{cube}
use Rattle.schedule.specs.Totals.{active_all, active_up_to, evaluations_bound}
use Rattle.schedule.specs.PlanLaws.{PlanLaws, Valid}
use Rattle.schedule.specs.Stops.{AtLeast}
use Rattle.schedule.specs.Opened.{lengths_of}
use Rattle.schedule.specs.Counts.{grid_counts, counts_with}
use Rattle.schedule.specs.Engine.{advanced}
use Rattle.schedule.proofs.Split.{split_made}
use Rattle.schedule.proofs.Sums.{up_to_most}
use Rattle.schedule.proofs.EventCounts.{left_bound}
use Rattle.schedule.proofs.Resume.{resume_within}
use Rattle.input.specs.declared.Input.{Input}
use Rattle.schedule.specs.declared.Cursor.{Cursor}
use Rattle.schedule.specs.declared.Job.{Job}
use Rattle.engine.specs.declared.Progress.{Progress}
use Rattle.std.specs.Prelude.{Option, Some, None}
use Rattle.plans.specs.Plan.{plan_of, plan_with}
use Rattle.engine.specs.Inner.Runs.{run_of}
use Rattle.engine.specs.Inner.Progress.{state_in, Advanced, after_stop, reading_in}
use Rattle.plans.specs.Sparse.{sparse}
use Rattle.sparse_field.specs.Inner.Parts.{cursor_at, job_at}
use Rattle.engine.proofs.RunLaws.{run_end}

-- where nothing follows, a function that came through is at the end
stop_ends : (P : Plan) (s : State) (left : ℕ) (x : Option Cursor) → after_stop P s left x [] ≡ record { state = s; cursor = cursor_at x; left = left }
stop_ends P s left None = run_end P left s
stop_ends P s left (Some a) = refl

-- an input's job with n leaves and k evaluations, at a cursor
abbrev pub reached : Input → Lengths → (n k : ℕ) → Cursor → Job
reached i l n k a = record { input = i; lengths = l; counts = counts_with (plan_of i) n k; cursor = a }

module _ (i : Input) (l : Lengths) (k b leaves most : ℕ) (m m₁ : Memory) (es : List Event) (r : Progress)
    (done : Advanced (plan_of i) b leaves m m₁ es [] r most) where
  -- where it has come to
  pub final : run_of (plan_of i) b es (state_in m leaves) ≡ record { state = state_in m₁ r.leaves; cursor = cursor_at r.stop; left = r.left }
  final = done.same ∙ stop_ends (plan_of i) (state_in m₁ r.leaves) r.left r.stop

  -- the evaluations that were made are what is no longer left
  pub made : evaluations (split b es).made ≡ b - r.left
  unfolding run_of
  made =
      let rest : b - evaluations (split b es).made ≡ r.left = ap (λ x. x.left) final in
      omega (arith, split_made b es)

  -- no more is left of the budget than there was
  pub left_most : r.left ≤ b
  unfolding run_of
  left_most =
      let rest : b - evaluations (split b es).made ≡ r.left = ap (λ x. x.left) final in
      omega arith

  -- the engine with the job, after the budget
  pub engine_after : advanced sparse i l k (state_in m leaves) (split b es)
      ≡ record { job = Some (reached i l r.leaves (k + (b - r.left)) (cursor_at r.stop)); memory = m₁ }
  unfolding advanced run_of
  engine_after =
      let state : apply_all (plan_of i) (split b es).made (state_in m leaves) ≡ state_in m₁ r.leaves = ap (λ x. x.state) final in
      let cursor : cursor_of (split b es).rest ≡ cursor_at r.stop = ap (λ x. x.cursor) final in
      λ t. record { job = Some (reached i l (state t).leaves (k + made t) (cursor t)); memory = (state t).memory }

-- ---- from a cursor of the plan

module _ (i : Input) (laws : PlanLaws (plan_of i)) (b leaves most : ℕ) (m m₁ : Memory) (a : Cursor) (r : Progress)
    (done : Advanced (plan_of i) b leaves m m₁ (events_from (plan_of i) a (reading_in m)) [] r most) (valid : Valid (plan_of i) a) where
  -- the leaves are among the active children
  pub leaves_after : (plan_of i).corners ≤ length m.corners → AtLeast 1 a leaves → leaves ≤ active_up_to (plan_of i) a → r.leaves ≤ active_all (plan_of i)
  unfolding run_of
  leaves_after enough low high =
      let P : Plan = plan_of i in
      let facts = resume_within P laws 1 0 (omega arith) a valid (state_in m leaves) enough low (omega arith) b in
      let same : apply_all P (split b (events_from P a (reading_in m))).made (state_in m leaves) ≡ state_in m₁ r.leaves =
      ap (λ x. x.state) (final i (lengths_of m) 0 b leaves most m m₁ (events_from P a (reading_in m)) r done) in
      omega (arith, ap (λ s. s.leaves) same, facts.below, up_to_most P (cursor_of (split b (events_from P a (reading_in m))).rest) facts.resumes.valid)

  -- no more evaluations are made than a job can have
  pub made_most : b - r.left ≤ evaluations_bound (plan_of i)
  made_most =
      let P : Plan = plan_of i in
      let es : List Event = events_from P a (reading_in m) in
      omega (arith, made i (lengths_of m) 0 b leaves most m m₁ es r done, split_made b es, left_bound P a (reading_in m) valid)

-- ---- the job

-- the job that the code makes is the engine's
pub job_same : (i : Input) {l k : Lengths} {counted : GridCounts} {evaluated n : ℕ} (r : Progress) → l ≡ k → counted ≡ grid_counts (plan_of i) → evaluated ≡ n
    → job_at i l counted r.leaves (cube i.grid.leaf) evaluated r.stop
    ≡ reached i k r.leaves n (cursor_at r.stop)
unfolding plan_with
job_same i r lengths counted evaluated =
    λ t. job_at i (lengths t) (counted t) r.leaves (cube i.grid.leaf) (evaluated t) r.stop
