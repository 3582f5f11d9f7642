-- DEMAND 3 as a statement about whole lists of calls, and what belongs to it. proofs/Demand has a term for each.
-- `engine_call sparse` is one call of open, step or drop on any record and memory: their contracts name it, as `called`.
use Rattle.std.specs.Prelude.{ℕ, ◌≡◌, true, Some, None, List, [], ◌∷◌, ◌++◌}
use Rattle.input.specs.declared.Input.{Input}
use Rattle.schedule.specs.declared.Job.{Job}
use Rattle.schedule.specs.declared.Cursor.TheVariants.{End}
use Rattle.schedule.specs.Opened.{lengths_of, zero_memory}
use Rattle.schedule.specs.Finished.{Finished}
use Rattle.schedule.specs.Numbering.{numbers_leaves}
use Rattle.schedule.specs.BudgetSum.{budget_sum}
use Rattle.schedule.specs.Calls.{Call, drops, run}
use Rattle.schedule.specs.Engine.{Engine, engine_call}
use Rattle.schedule.specs.Ledger.{no_entry, entry, ledger_call, first_ledger}
use Rattle.schedule.specs.Agree.{Agree}
use Rattle.plans.specs.Plan.{plan_of}
use Rattle.plans.specs.Sparse.{sparse}
use Rattle.plans.specs.OwnCorners.{OwnCorners}

-- Any list of opens, steps and drops, refused ones among them, from any record without a job and any contents of the memory: the answers,
-- every element, and the job with its counts are the ledger's (rule L10).
abbrev pub DemandThree : Type 0
DemandThree =
    (cs : List Call) (e : Engine) → e.job ≡ None
    → Agree sparse (run (engine_call sparse) cs e) (run (ledger_call sparse) cs (first_ledger e.memory))

-- After any such list a drop leaves all zeros (rule L8).
abbrev pub DropLeavesZeros : Type 0
DropLeavesZeros =
    (cs : List Call) (e : Engine) → e.job ≡ None
    → (run (engine_call sparse) (cs ++ (drops ∷ [])) e).last.memory ≡ zero_memory (lengths_of e.memory)

-- What a job has made of the memory depends on its plan, on the lengths of the slices and on the sum of its budgets, and on nothing that
-- came before it: where two lists leave jobs for which these three are the same, every element is the same (rule L11). Inputs that differ in
-- parts past the count alone have one plan (plans, proofs/SamePlans).
abbrev pub EqualBudgets : Type 0
EqualBudgets =
    (cs₁ cs₂ : List Call) (e₁ e₂ : Engine) → e₁.job ≡ None → e₂.job ≡ None
    → lengths_of e₁.memory ≡ lengths_of e₂.memory → (i₁ i₂ : Input) (n : ℕ) → plan_of i₁ ≡ plan_of i₂
    → budget_sum sparse (lengths_of e₁.memory) cs₁ no_entry ≡ entry i₁ n → budget_sum sparse (lengths_of e₂.memory) cs₂ no_entry ≡ entry i₂ n
    → (run (engine_call sparse) cs₁ e₁).last.memory ≡ (run (engine_call sparse) cs₂ e₂).last.memory

-- DEMAND 2 for the sparse field: after any such list a finished job holds the plan's own values, from the model at the corner and leaf points,
-- and zeros elsewhere (rule S17); and what becomes of an active child comes from the model's values at its own eight corners.
abbrev pub FinishedField : Type 0
FinishedField =
    (cs : List Call) (e : Engine) → e.job ≡ None
    → (j : Job) → (run (engine_call sparse) cs e).last.job ≡ Some j → j.cursor ≡ End
    → Finished (plan_of j.input) (run (engine_call sparse) cs e).last.memory × OwnCorners j.input

-- After any such list that leaves a job open, finished or not, the kinds equal to 2 are as many as the record's leaves, and their places
-- number them from 0 in child order (rule S8).
abbrev pub LeavesNumbered : Type 0
LeavesNumbered =
    (cs : List Call) (e : Engine) → e.job ≡ None → (j : Job) → (run (engine_call sparse) cs e).last.job ≡ Some j
    → numbers_leaves (plan_of j.input) (run (engine_call sparse) cs e).last.memory j.counts.leaves ≡ true
