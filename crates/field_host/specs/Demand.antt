-- DEMAND 3 for the C interface, and what belongs to it, as statements about whole lists of its calls. proofs/HostDemand has a term for each.
-- `on_station` is made of `hosted`, which the contracts of the three functions name.
use Rattle.std.specs.Prelude.{ℕ, ◌≡◌, true, List, [], ◌∷◌, ◌++◌, map, get_or, Option, Some}
use Rattle.schedule.specs.Opened.{lengths_of, zero_memory}
use Rattle.schedule.specs.Finished.{Finished}
use Rattle.schedule.specs.Numbering.{numbers_leaves}
use Rattle.schedule.specs.BudgetSum.{budget_sum}
use Rattle.schedule.specs.Calls.{run}
use Rattle.schedule.specs.Ledger.{no_entry, entry, ledger_call, first_ledger}
use Rattle.schedule.specs.Agree.{Agree}
use Rattle.schedule.specs.Implements.{view_run}
use Rattle.input.specs.declared.Input.{Input}
use Rattle.schedule.specs.declared.Cursor.TheVariants.{End}
use Rattle.schedule.specs.declared.Job.{Job}
use Rattle.plans.specs.Plan.{plan_of}
use Rattle.plans.specs.Sparse.{sparse}
use Rattle.plans.specs.OwnCorners.{OwnCorners}
use Rattle.field_host.specs.Carried.{decoded}
use Rattle.field_host.specs.HostLists.{HostCall, drops_all, call_of, Station, on_station, engine_at}

-- arrays without a job: the first word is 0, whatever else they hold
abbrev pub NoJob : Station → Type 0
NoJob s = get_or s.carried.words 0 0 ≡ 0

-- Any list of the three functions' calls, refused ones among them, from any such arrays and any contents of the memory: the answers, every
-- element, and the job with its counts are the ledger's (rule L10).
abbrev pub HostDemandThree : Type 0
HostDemandThree =
    (cs : List HostCall) (s : Station) → NoJob s
    → Agree sparse (view_run engine_at (run on_station cs s)) (run (ledger_call sparse) (map call_of cs) (first_ledger s.memory))

-- After any such list a drop leaves all zeros (rule L8).
abbrev pub HostDropLeavesZeros : Type 0
HostDropLeavesZeros =
    (cs : List HostCall) (s : Station) → NoJob s → (run on_station (cs ++ (drops_all ∷ [])) s).last.memory ≡ zero_memory (lengths_of s.memory)

-- Where two lists leave jobs with the same plan, the same lengths and the same sum of budgets, every element is the same (rule L11).
abbrev pub HostEqualBudgets : Type 0
HostEqualBudgets =
    (cs₁ cs₂ : List HostCall) (s₁ s₂ : Station) → NoJob s₁ → NoJob s₂ → lengths_of s₁.memory ≡ lengths_of s₂.memory
    → (i₁ i₂ : Input) (n : ℕ) → plan_of i₁ ≡ plan_of i₂ → budget_sum sparse (lengths_of s₁.memory) (map call_of cs₁) no_entry ≡ entry i₁ n
    → budget_sum sparse (lengths_of s₂.memory) (map call_of cs₂) no_entry ≡ entry i₂ n
    → (run on_station cs₁ s₁).last.memory ≡ (run on_station cs₂ s₂).last.memory

-- the record that the arrays read as after a list
abbrev pub record_after : List HostCall → Station → Option Job
record_after cs s = decoded (run on_station cs s).last.carried

-- After any such list a finished job holds the plan's own values, from the model at the corner and leaf points, and zeros elsewhere (rule S17).
abbrev pub HostFinishedField : Type 0
HostFinishedField =
    (cs : List HostCall) (s : Station) → NoJob s → (j : Job) → record_after cs s ≡ Some j → j.cursor ≡ End
    → Finished (plan_of j.input) (run on_station cs s).last.memory × OwnCorners j.input

-- After any such list that leaves a job open its leaves are numbered from 0 in child order (rule S8).
abbrev pub HostLeavesNumbered : Type 0
HostLeavesNumbered =
    (cs : List HostCall) (s : Station) → NoJob s → (j : Job) → record_after cs s ≡ Some j
    → numbers_leaves (plan_of j.input) (run on_station cs s).last.memory j.counts.leaves ≡ true
