-- What is left of a schedule, from a cursor and from what the corners hold (rule S12).
use Rattle.std.specs.Prelude.{ℕ, suc, ◌-◌, List, [], ◌∷◌, ◌++◌, get_or, Float}
use Rattle.float.specs.Zero.{plus_zero}
use Rattle.schedule.specs.declared.Cursor.{Cursor}
use Rattle.schedule.specs.declared.Cursor.TheVariants.{End, Corner, Point}
use Rattle.schedule.specs.Memory.{State}
use Rattle.schedule.specs.Schedule.{Event, Site, children_from, clear_corners, corner, corners_from, evaluate, corners_held, nodes_from, point, points_from, work}
use Rattle.schedule.specs.Plan.{Plan}

-- the cursor at an evaluation's site (rule S12)
abbrev pub at_site : Site → Cursor
at_site (corner v i) = Corner v i
at_site (point v c p) = Point v c p

-- the cursor where a list of events is left (rule S12)
unfoldable pub cursor_of : List Event → Cursor
cursor_of [] = End
cursor_of (evaluate s x ∷ es) = at_site s
cursor_of (work w ∷ es) = cursor_of es

-- the nodes that are left from v on
unfoldable pub nodes_left : Plan → ℕ → List Event
unfolding nodes_from
nodes_left P v = nodes_from P (P.nodes - v) v

-- what is left from child c of node v on, where the corners hold `read`
unfoldable pub children_left : Plan → ℕ → ℕ → (ℕ → Float) → List Event
unfolding children_from nodes_left
children_left P v c read = children_from P read v (P.children - c) c ++ (work clear_corners ∷ nodes_left P (suc v))

-- what is left at a cursor, where the corners hold `read`
unfoldable pub events_from : Plan → Cursor → (ℕ → Float) → List Event
unfolding corners_from points_from children_left
events_from P End read = []
events_from P (Corner v i) read = corners_from P v (P.corners - i) i ++ children_left P v 0 (corners_held P v i read)
events_from P (Point v c p) read = points_from P v c (P.leaf_points - p) p ++ children_left P v (suc c) read

-- what the corners hold in a state
abbrev pub reading : State → ℕ → Float
reading s i = get_or s.memory.corners i plus_zero
