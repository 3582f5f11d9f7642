-- What `called` comes to, by the branches of open, step and drop.
use Prim.Native.Nat.{ℕ}
use mathlib.Core.Path.{◌≡◌, refl, ap}
use mathlib.Core.Bool.{Bool, true, false, cond}
use Rattle.input.specs.declared.Input.{Input}
use Rattle.std.specs.Prelude.{Ok, Err, Option, Some, None}
use Rattle.causes.specs.declared.Cause.{Cause}
use Rattle.causes.specs.declared.Cause.TheVariants.{NoJob, ImpossibleRecord}
use Rattle.schedule.specs.declared.Job.{Job}
use Rattle.schedule.specs.Memory.{Memory}
use Rattle.schedule.specs.Opened.{lengths_of, zero_memory}
use Rattle.schedule.specs.Possible.{impossible}
use Rattle.schedule.specs.Calls.{opens, steps, drops, Answer, Reply}
use Rattle.schedule.specs.Engine.{Engine, opened_engine, stepped_engine, engine_call, engine_open, engine_step}
use Rattle.plans.specs.Sparse.{sparse}
use Rattle.sparse_field.specs.Calls.{called}

-- a refused call: the record that it was given, and the memory as it was
abbrev pub refused_by : Cause → Option Job → Memory → Reply Engine
refused_by cause r m = record { answer = Err cause; next = record { job = r; memory = m } }

-- an accepted call
abbrev pub accepted_with : Engine → Reply Engine
accepted_with e = record { answer = Ok tt; next = e }

module _ (i : Input) (r : Option Job) (m : Memory) where
  abbrev by_answer : Answer → Reply Engine
  by_answer a = engine_open sparse i (record { job = r; memory = m }) a

  -- a refused open
  pub open_refused : (cause : Cause) → sparse.answer (lengths_of m) i ≡ Err cause → called (opens i) r m ≡ refused_by cause r m
  unfolding engine_call engine_open
  open_refused cause e = ap by_answer e

  -- an accepted open
  pub open_accepted : sparse.answer (lengths_of m) i ≡ Ok tt → called (opens i) r m ≡ accepted_with (opened_engine sparse i (lengths_of m))
  unfolding engine_call engine_open
  open_accepted e = ap by_answer e

module _ (n : ℕ) (j : Job) (m : Memory) where
  -- by whether the record is impossible
  abbrev by_test : Bool → Reply Engine
  by_test b = cond b (refused_by ImpossibleRecord (Some j) m) (accepted_with (stepped_engine sparse n j m))

  -- a step with an impossible record
  pub step_impossible : impossible sparse j m ≡ true → called (steps n) (Some j) m ≡ refused_by ImpossibleRecord (Some j) m
  unfolding engine_call engine_step
  step_impossible judged = ap by_test judged

  -- an accepted step
  pub step_accepted : impossible sparse j m ≡ false → called (steps n) (Some j) m ≡ accepted_with (stepped_engine sparse n j m)
  unfolding engine_call engine_step
  step_accepted judged = ap by_test judged

-- a step without a job
pub step_none : (n : ℕ) (m : Memory) → called (steps n) None m ≡ refused_by NoJob None m
unfolding engine_call engine_step
step_none n m = refl

-- a drop
pub drop_accepted : (r : Option Job) (m : Memory) → called drops r m ≡ accepted_with (record { job = None; memory = zero_memory (lengths_of m) })
unfolding engine_call
drop_accepted r m = refl
