-- How far a function of the engine has come, and what is left to do after it.
use Rattle.std.specs.Prelude.{ℕ, suc, ◌+◌, ◌*◌, ◌-◌, ◌≤◌, ◌<◌, min, cond, ltb, ◌≡◌, List, length, get_or, Float, Option, Some, None}
use Rattle.schedule.specs.Schedule.{Event}
use Rattle.schedule.specs.Plan.{Plan}
use Rattle.schedule.specs.Resume.{children_left, nodes_left}
use Rattle.schedule.specs.Memory.{Memory, State}
use Rattle.float.specs.Zero.{plus_zero}
use Rattle.schedule.specs.Totals.{active_before, active_all}
use Rattle.schedule.specs.Opened.{ActiveKinds}
use Rattle.engine.specs.declared.Progress.{Progress}
use Rattle.engine.specs.declared.Task.{Task}
use Rattle.schedule.specs.declared.Cursor.{Cursor}
use Rattle.schedule.specs.declared.Cursor.TheVariants.{Point}
use Rattle.plans.specs.Plan.{plan_with, decide_by}
use Rattle.rows.specs.Inner.ModelValue.{model_at}
use Rattle.engine.specs.Inner.Runs.{Run, run_of}

-- the plan that the engine's functions work on: a task, with some value at a point, or with that of a model
abbrev pub plan_by : Task → (Float → Float → Float → Float) → Plan
plan_by task value = plan_with task.grid (decide_by task.band) value

abbrev pub plan : Task → Plan
plan task = plan_by task (model_at task.model.now)

-- slices that cause 6 does not refuse, with kinds as rule R8 wants them
pub record Lent (P : Plan) (m : Memory) : Type 0 where
  pub kinds : P.nodes * P.children ≤ length m.kinds
  pub numbers : P.nodes * P.children ≤ length m.numbers
  pub places : P.nodes * P.children ≤ length m.places
  pub store : active_all P * P.leaf_points ≤ length m.store
  pub corners : P.corners ≤ length m.corners
  pub active_kinds : ActiveKinds P m.kinds

-- what comes of the events es after a function has stopped, or come through, in state s with so much of the budget left
abbrev pub after_stop : Plan → State → ℕ → Option Cursor → List Event → Run
after_stop P s left None es = run_of P left es s
after_stop P s left (Some a) es = record { state = s; cursor = a; left = left }

-- where a function has come through, a fact holds
abbrev pub IfThrough : Option Cursor → Type 0 → Type 0
IfThrough None A = A
IfThrough (Some a) A = Unit {0}

-- progress by its parts
abbrev pub progress : ℕ → ℕ → Option Cursor → Progress
progress leaves left stop = record { leaves = leaves; left = left; stop = stop }

-- a state by its memory and its leaves
abbrev pub state_in : Memory → ℕ → State
state_in m leaves = record { memory = m; leaves = leaves }

-- From memory m and so many leaves, with budget b, the events `from` are left. A function has gone as far as r says, to memory m': `to` is
-- left if it has come through, and then at most `most` leaves are there.
pub record Advanced (P : Plan) (b leaves : ℕ) (m m' : Memory) (from to : List Event) (r : Progress) (most : ℕ) : Type 0 where
  pub same : run_of P b from (state_in m leaves) ≡ after_stop P (state_in m' r.leaves) r.left r.stop to
  pub lent : Lent P m'
  pub at_most : IfThrough r.stop (r.leaves ≤ most)

-- lent memory before child c of node v, with leaves that the children before it can have made
pub record Ready (P : Plan) (v c leaves : ℕ) (m : Memory) : Type 0 where
  pub lent : Lent P m
  pub node : v < P.nodes
  pub at_most : leaves ≤ active_before P v c

-- what the corners of a memory hold
abbrev pub reading_in : Memory → ℕ → Float
reading_in m i = get_or m.corners i plus_zero

-- children c up to c' of node v
abbrev pub ChildrenAdvanced : Plan → (v c c' b leaves : ℕ) → (m m' : Memory) → Progress → Type 0
ChildrenAdvanced P v c c' b leaves m m' r =
    Advanced P b leaves m m' (children_left P v c (reading_in m)) (children_left P v c' (reading_in m)) r (active_before P v c')

-- every corner holds +0
abbrev pub ZeroCorners : Memory → Type 0
ZeroCorners m = (i : ℕ) → reading_in m i ≡ plus_zero

-- the rest of node v, of which `from` is left
pub record NodeAdvanced (P : Plan) (v b leaves : ℕ) (m m' : Memory) (from : List Event) (r : Progress) : Type 0 where
  pub advanced : Advanced P b leaves m m' from (nodes_left P (suc v)) r (active_before P (suc v) 0)
  pub cleared : IfThrough r.stop (ZeroCorners m')

-- points of a leaf from p on: how far a budget goes
unfoldable pub leaf_progress : (leaves b v c p points : ℕ) → Progress
leaf_progress leaves b v c p points =
    let r = min b (points - p) in
    record { leaves = leaves; left = b - r; stop = cond (ltb (p + r) points) (Some (Point v c (p + r))) None }
