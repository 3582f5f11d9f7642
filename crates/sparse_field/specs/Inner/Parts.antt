-- The parts of what open and step do, as the functions below them state them.
use Rattle.std.specs.Prelude.{ℕ, ◌*◌, Option, Some, None}
use Rattle.schedule.specs.Memory.{Memory}
use Rattle.input.specs.declared.Lengths.{Lengths}
use Rattle.schedule.specs.Opened.{opened}
use Rattle.input.specs.declared.Input.{Input}
use Rattle.schedule.specs.declared.Job.{Job}
use Rattle.plans.specs.Plan.{plan_of}
use Rattle.grid.specs.declared.GridCounts.{GridCounts}
use Rattle.schedule.specs.declared.Cursor.{Cursor}
use Rattle.schedule.specs.declared.Cursor.TheVariants.{End}

-- what an accepted open writes before the first event
abbrev pub start_memory : Input → Lengths → Memory
start_memory i l = (opened (plan_of i) l).memory

-- the cursor where work has stopped, or the end
abbrev pub cursor_at : Option Cursor → Cursor
cursor_at None = End
cursor_at (Some a) = a

-- an input's job: its lengths, its counts, and where it has come to (rules R1 to R3)
abbrev pub job_at : Input → Lengths → GridCounts → (leaves points evaluations : ℕ) → Option Cursor → Job
job_at i l counted leaves points evaluations stop =
    record {
      input = i;
      lengths = l;
      counts = record { grid = counted; leaves = leaves; sampled = leaves * points; evaluations = evaluations };
      cursor = cursor_at stop;
    }
