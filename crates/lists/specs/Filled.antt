-- A list after stores in a row: what a loop over a stretch of a slice leaves.
use Rattle.std.specs.Prelude.{ℕ, zero, suc, ◌+◌, List, set}

-- the `count` elements from `at` on are the function's values at their places, and the others are as they were
unfoldable pub filled : {A : Type 0} → (at count : ℕ) → (ℕ → A) → List A → List A
filled at zero g l = l
filled at (suc count) g l = set (filled at count g l) (at + count) (g (at + count))
