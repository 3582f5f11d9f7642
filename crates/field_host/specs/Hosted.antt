-- What open, step and drop answer and leave in a record's arrays and in the lent slices, for every contents of both.
use Rattle.std.specs.Prelude.{ℕ, cond, List, [], ◌∷◌, eqb, get_or, Ok, Err, Option}
use Rattle.schedule.specs.Memory.{Memory}
use Rattle.schedule.specs.declared.Counts.{Counts}
use Rattle.schedule.specs.declared.Job.{Job}
use Rattle.schedule.specs.Calls.{Call, Answer, Reply}
use Rattle.schedule.specs.Engine.{Engine}
use Rattle.sparse_field.specs.Calls.{called}
use Rattle.field_host.specs.Answers.{outcome_number}
use Rattle.field_host.specs.Carried.{Carried, encoded, fits, decoded}

-- the arrays after a call: an accepted one writes its record, a refused one leaves them as they were (rule R14)
unfoldable pub left_by : Answer → (next old : Carried) → Carried
left_by (Ok u) next old = next
left_by (Err cause) next old = old

abbrev pub carried_after : Answer → Option Job → Carried → Carried
carried_after a r old = left_by a (encoded r) old

-- what a call of the C interface answers and leaves
pub record Hosted : Type 0 where
  pub number : ℕ
  pub carried : Carried
  pub memory : Memory

abbrev pub hosted_by : Reply Engine → Carried → Hosted
hosted_by h old =
    record { number = outcome_number h.answer; carried = carried_after h.answer h.next.job old; memory = h.next.memory }

-- the engine's call on the record that the arrays read as (rule R15)
unfoldable pub hosted : Call → Carried → Memory → Hosted
hosted c old m = hosted_by (called c (decoded old) m) old

-- 7 without a job, then 8 for words that no record has, and else 0 (rule R16)
unfoldable pub words_number : List ℕ → ℕ
words_number ws = cond (eqb (get_or ws 0 0) 0) 7 (cond (fits ws) 0 8)

abbrev pub counts_list : Counts → List ℕ
counts_list c = c.grid.nodes ∷ c.grid.active ∷ c.leaves ∷ c.sampled ∷ c.evaluations ∷ []
