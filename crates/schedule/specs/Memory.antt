-- The lent memory, and what each event of a schedule does to it.
use Rattle.std.specs.Prelude.{ℕ, suc, ◌+◌, ◌*◌, ◌-◌, List, [], ◌∷◌, set, length, replicate, Float}
use Rattle.float.specs.Zero.{plus_zero}
use Rattle.schedule.specs.Schedule.{Event, clear_corners, corner, evaluate, make_constant, make_leaf, point, work}
use Rattle.schedule.specs.Plan.{Plan}

-- The five lent lists (rules S1 and S2). A child has its place in the first three: what it is (0 where it is not active, 1 where it is active
-- and not decided, or a constant, 2 where it is a leaf), a constant's number, and a leaf's ordinal. The store has the points of each leaf, one
-- ordinal after the other, and the corners those of the node in work.
pub record Memory : Type 0 where
  pub kinds : List ℕ
  pub numbers : List Float
  pub places : List ℕ
  pub store : List Float
  pub corners : List Float

-- the memory, and how many leaves there are so far: the next leaf's ordinal (rule S8)
pub record State : Type 0 where
  pub memory : Memory
  pub leaves : ℕ

-- a state by its five lists and its leaves
abbrev pub state : List ℕ → List Float → List ℕ → List Float → List Float → ℕ → State
state ks ns ps st cs n = record { memory = record { kinds = ks; numbers = ns; places = ps; store = st; corners = cs }; leaves = n }

-- What one event does: a corner's value goes to its place (rule S5), a point's to its place in the last leaf's stretch of the store (rule S8),
-- a constant and a leaf to their child's places (rules S7 and S8), and the corners are cleared (rule S9).
unfoldable pub apply : Plan → Event → State → State
apply P (evaluate (corner v i) x) s =
    let m = s.memory in state m.kinds m.numbers m.places m.store (set m.corners i x) s.leaves
apply P (evaluate (point v c p) x) s =
    let m = s.memory in state m.kinds m.numbers m.places (set m.store ((s.leaves - 1) * P.leaf_points + p) x) m.corners s.leaves
apply P (work (make_constant j k x)) s =
    let m = s.memory in state (set m.kinds j k) (set m.numbers j x) m.places m.store m.corners s.leaves
apply P (work (make_leaf j)) s =
    let m = s.memory in state (set m.kinds j 2) m.numbers (set m.places j s.leaves) m.store m.corners (suc s.leaves)
apply P (work clear_corners) s =
    let m = s.memory in state m.kinds m.numbers m.places m.store (replicate (length m.corners) plus_zero) s.leaves

-- what events do, one after the other
unfoldable pub apply_all : Plan → List Event → State → State
unfolding apply
apply_all P [] s = s
apply_all P (e ∷ es) s = apply_all P es (apply P e s)
