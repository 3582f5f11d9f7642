-- Whole lists of calls as a host makes them, on a record's arrays and the lent memory.
use Rattle.std.specs.Prelude.{ℕ, zero, suc, List, get_or, Float, Ok, Err}
use Rattle.model.specs.Flat.{Flat}
use Rattle.schedule.specs.Memory.{Memory}
use Rattle.schedule.specs.Calls.{Call, opens, steps, drops, Answer, Reply}
use Rattle.causes.specs.declared.Cause.TheVariants.{Walk}
use Rattle.causes.specs.All.{all_causes}
use Rattle.schedule.specs.Engine.{Engine}
use Rattle.field_host.specs.Given.{input_given}
use Rattle.field_host.specs.Carried.{Carried, decoded}
use Rattle.field_host.specs.Hosted.{hosted}

-- an open with its settings, block sizes, the model's two arrays and its part count; a step with its budget; a drop
pub data HostCall : Type 0 where
  opens_with : (settings : List Float) (inner leaf : ℕ) (l : Flat) (count : ℕ) → HostCall
  steps_by : ℕ → HostCall
  drops_all : HostCall

-- the engine's call
abbrev pub call_of : HostCall → Call
call_of (opens_with s inner leaf l count) = opens (input_given s inner leaf l count)
call_of (steps_by n) = steps n
call_of drops_all = drops

-- the record's arrays, and the lent memory
pub record Station : Type 0 where
  pub carried : Carried
  pub memory : Memory

-- the answer of a number: 0 is that the call was accepted
abbrev pub answer_of : ℕ → Answer
answer_of zero = Ok tt
answer_of (suc n) = Err (get_or all_causes n Walk)

-- one call: what the contracts of the C functions say
abbrev pub on_station : HostCall → Station → Reply Station
on_station c s =
    let h = hosted (call_of c) s.carried s.memory in
    record { answer = answer_of h.number; next = record { carried = h.carried; memory = h.memory } }

-- what the schedule's engine is, with these arrays and this memory
abbrev pub engine_at : Station → Engine
engine_at s = record { job = decoded s.carried; memory = s.memory }
