-- What is left of a schedule, made with a budget: the memory, where it stops, and the budget that is left.
use Rattle.std.specs.Prelude.{ℕ, ◌-◌, List}
use Rattle.schedule.specs.Schedule.{Event}
use Rattle.schedule.specs.Plan.{Plan}
use Rattle.schedule.specs.declared.Cursor.{Cursor}
use Rattle.schedule.specs.Resume.{cursor_of}
use Rattle.schedule.specs.Split.{split, evaluations}
use Rattle.schedule.specs.Memory.{State, apply_all}

pub record Run : Type 0 where
  pub state : State
  pub cursor : Cursor
  pub left : ℕ

-- the events es from state s, with a budget of b evaluations
unfoldable pub run_of : Plan → ℕ → List Event → State → Run
run_of P b es s =
    record {
      state = apply_all P (split b es).made s;
      cursor = cursor_of (split b es).rest;
      left = b - evaluations (split b es).made;
    }
