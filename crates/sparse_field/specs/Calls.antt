-- What open, step and drop answer, and leave in the record and in the lent slices, for every record and memory (rule C55).
use Rattle.std.specs.Prelude.{Option}
use Rattle.schedule.specs.declared.Job.{Job}
use Rattle.schedule.specs.Memory.{Memory}
use Rattle.schedule.specs.Calls.{Call, Reply}
use Rattle.schedule.specs.Engine.{Engine, engine_call}
use Rattle.plans.specs.Sparse.{sparse}

-- a call on a record and a memory: its answer, and the record and the memory after it (rules S13 to S15)
abbrev pub called : Call → Option Job → Memory → Reply Engine
called c r m = engine_call sparse c (record { job = r; memory = m })
