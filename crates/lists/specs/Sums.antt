-- Sums over a range of numbers, and a test as a number, so that a sum counts.
use Rattle.std.specs.Prelude.{ℕ, zero, suc, ◌+◌, Bool, true, false}

-- f i + f (i + 1) + .. , r terms
unfoldable pub sum_from : (ℕ → ℕ) → ℕ → ℕ → ℕ
sum_from f zero i = 0
sum_from f (suc r) i = f i + sum_from f r (suc i)

-- f 0 + .. + f (n - 1)
abbrev pub sum_below : (ℕ → ℕ) → ℕ → ℕ
sum_below f n = sum_from f n 0

-- a test as a number
abbrev pub bit : Bool → ℕ
bit true = 1
bit false = 0
