-- Where the engine may go on: a place of the plan, with leaves that the children up to it can have made.
use Rattle.std.specs.Prelude.{ℕ, suc, ◌≤◌, ◌<◌}
use Rattle.schedule.specs.Plan.{Plan}
use Rattle.schedule.specs.Totals.{active_before}
use Rattle.schedule.specs.declared.Cursor.{Cursor}
use Rattle.schedule.specs.declared.Cursor.TheVariants.{End, Corner, Point}

-- at most as many leaves as rule R12 allows, and at least one inside a child (rule R13)
abbrev pub Startable : Plan → Cursor → ℕ → Type 0
Startable P End leaves = Unit {0}
Startable P (Corner v i) leaves = (v < P.nodes) × (i ≤ P.corners) × (leaves ≤ active_before P v 0)
Startable P (Point v c p) leaves = (v < P.nodes) × (c < P.children) × (p ≤ P.leaf_points) × (0 < leaves) × (leaves ≤ active_before P v (suc c))
