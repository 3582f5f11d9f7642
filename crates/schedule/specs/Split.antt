-- How far k evaluations go in a list of events: through all work that follows them (rule S11).
use Rattle.std.specs.Prelude.{ℕ, zero, suc, List, [], ◌∷◌}
use Rattle.schedule.specs.Schedule.{Event, evaluate, work}

-- a list of events in two parts: what is made, and what is left
pub record Split : Type 0 where
  pub made : List Event
  pub rest : List Event

-- one event more, made first
abbrev pub prepend : Event → Split → Split
prepend e c = record { made = e ∷ c.made; rest = c.rest }

-- the parts after k evaluations (rule S11)
unfoldable pub split : ℕ → List Event → Split
split k [] = record { made = []; rest = [] }
split zero (evaluate s x ∷ es) = record { made = []; rest = evaluate s x ∷ es }
split (suc k) (evaluate s x ∷ es) = prepend (evaluate s x) (split k es)
split k (work w ∷ es) = prepend (work w) (split k es)

-- the evaluations among events
unfoldable pub evaluations : List Event → ℕ
evaluations [] = 0
evaluations (evaluate s x ∷ es) = suc (evaluations es)
evaluations (work w ∷ es) = evaluations es
