-- Values stored at listed places.
use Rattle.std.specs.Prelude.{ℕ, zero, suc, List, [], ◌∷◌, get_or, set, Float}
use Rattle.model.specs.Part.{past}

-- each listed place with its own value, in the list's order
unfoldable pub written : (ℕ → Float) → (places : List ℕ) → List Float → List Float
written value [] l = l
written value (p ∷ places) l = written value places (set l p (value p))

-- the first `count` of a row of values, each at the place that is listed for it
unfoldable pub scattered : (count : ℕ) (places : List ℕ) (values : List Float) → List Float → List Float
scattered zero places values l = l
scattered (suc q) places values l = set (scattered q places values l) (get_or places q 0) (get_or values q past)
