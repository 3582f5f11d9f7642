-- What the five slices that are lent to a job hold, for contracts.
use Rattle.std.specs.Prelude.{ℕ, List, Float, ◌≡◌}
use Rattle.schedule.specs.Memory.{Memory}
use Rattle.schedule.specs.declared.slices.Slices.{Slices}
use Rattle.schedule.specs.declared.slices.View.{View}

-- the memory that five slices hold (rule S1)
abbrev pub memory_of : (kinds : List ℕ) (numbers : List Float) (places : List ℕ) (store corners : List Float) → Memory
memory_of kinds numbers places store corners =
    record { kinds = kinds; numbers = numbers; places = places; store = store; corners = corners }

-- the memory that slices hold at a moment, lent to be written
abbrev pub held : Slices → Memory
held s = memory_of s.kinds.now s.numbers.now s.places.now s.store.now s.corners.now

-- lent to be read
abbrev pub viewed : View → Memory
viewed v = memory_of v.kinds.now v.numbers.now v.places.now v.store.now v.corners.now

-- they are the same five slices at both moments, so that what the later ones hold is what the lender gets back
pub record SameSlices (a b : Slices) : Type 0 where
  pub kinds : b.kinds.ghost_name ≡ a.kinds.ghost_name
  pub numbers : b.numbers.ghost_name ≡ a.numbers.ghost_name
  pub places : b.places.ghost_name ≡ a.places.ghost_name
  pub store : b.store.ghost_name ≡ a.store.ghost_name
  pub corners : b.corners.ghost_name ≡ a.corners.ghost_name
