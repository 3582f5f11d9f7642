-- The numbers below n: whether one of them passes a test, how many do, and the list of those that do.
use Rattle.std.specs.Prelude.{ℕ, zero, suc, Bool, false, cond, ◌||◌, List, [], ◌∷◌, ◌++◌, eqb}
use Rattle.lists.specs.Sums.{sum_below, bit}

unfoldable pub any_below : ℕ → (ℕ → Bool) → Bool
any_below zero test = false
any_below (suc n) test = any_below n test || test n

abbrev pub count_below : ℕ → (ℕ → Bool) → ℕ
count_below n test = sum_below (λ i. bit (test i)) n

-- in ascending order
unfoldable pub list_below : ℕ → (ℕ → Bool) → List ℕ
list_below zero test = []
list_below (suc n) test = list_below n test ++ cond (test n) (n ∷ []) []

-- whether a number is in a list
unfoldable pub among : ℕ → List ℕ → Bool
among x [] = false
among x (y ∷ l) = eqb x y || among x l
