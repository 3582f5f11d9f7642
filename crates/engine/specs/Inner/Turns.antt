-- Where a job stands, and how its work goes on from node to node.
use Rattle.std.specs.Prelude.{ℕ, ◌≤◌, ◌≡◌, List, length, get_or, Float}
use Rattle.float.specs.Zero.{plus_zero}
use Rattle.schedule.specs.Schedule.{Event}
use Rattle.schedule.specs.Plan.{Plan}
use Rattle.schedule.specs.Memory.{Memory}
use Rattle.schedule.specs.Totals.{active_before, active_all}
use Rattle.engine.specs.declared.Standing.{Standing}
use Rattle.engine.specs.declared.Progress.{Progress}
use Rattle.engine.specs.Inner.Startable.{Startable}
use Rattle.engine.specs.Inner.Progress.{Lent, IfThrough, ZeroCorners, after_stop, state_in}

-- a job that may go on in memory m
pub record Standable (P : Plan) (at : Standing) (m : Memory) : Type 0 where
  pub lent : Lent P m
  pub startable : Startable P at.cursor at.leaves
  pub few : at.leaves ≤ active_all P

-- Work has gone as far as r₀ says, with the events `from` left. From there it has gone as far as r says, to memory m', with `to` left; and if
-- it has come through, at most `most` leaves are there.
pub record Continued (P : Plan) (r₀ : Progress) (m m' : Memory) (from to : List Event) (r : Progress) (most : ℕ) : Type 0 where
  pub same : after_stop P (state_in m r₀.leaves) r₀.left r₀.stop from ≡ after_stop P (state_in m' r.leaves) r.left r.stop to
  pub lent : Lent P m'
  pub at_most : IfThrough r.stop (r.leaves ≤ most)

-- if work has come through, node v may begin in memory m
pub record NodesReady (P : Plan) (v : ℕ) (r : Progress) (m : Memory) : Type 0 where
  pub lent : Lent P m
  pub at_most : IfThrough r.stop (r.leaves ≤ active_before P v 0)
  pub cleared : IfThrough r.stop (ZeroCorners m)

-- corners from a place on are as they were
pub record SameBehind (used : ℕ) (before after : List Float) : Type 0 where
  pub long : length after ≡ length before
  pub same : (i : ℕ) → used ≤ i → get_or after i plus_zero ≡ get_or before i plus_zero

-- corners from a place on hold +0
pub record CleanBehind (used : ℕ) (corners : List Float) : Type 0 where
  pub within : used ≤ length corners
  pub zero : (i : ℕ) → used ≤ i → get_or corners i plus_zero ≡ plus_zero
