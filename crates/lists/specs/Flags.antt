-- Numbers by a test of their places: the list of 0 and 1 that it gives, and whether numbers are nonzero at just the places that pass.
use Rattle.std.specs.Prelude.{ℕ, zero, suc, ◌/◌, ◌%◌, Bool, true, false, ◌&&◌, List, [], ◌∷◌}
use Rattle.std.specs.Bool.{beq}
use Rattle.lists.specs.Sums.{bit}

abbrev pub nonzero : ℕ → Bool
nonzero zero = false
nonzero (suc n) = true

-- 1 where the test passes and 0 elsewhere, at r places from j on
unfoldable pub flags_from : (ℕ → Bool) → (r j : ℕ) → List ℕ
flags_from test zero j = []
flags_from test (suc r) j = bit (test j) ∷ flags_from test r (suc j)

-- whether numbers are nonzero at just the places from j on that pass
unfoldable pub agrees_from : (ℕ → Bool) → ℕ → List ℕ → Bool
agrees_from test j [] = true
agrees_from test j (x ∷ xs) = beq (nonzero x) (test j) && agrees_from test (suc j) xs

-- a test of places in rows of n
abbrev pub in_rows : ℕ → (ℕ → ℕ → Bool) → ℕ → Bool
in_rows n test p = test (p / n) (p % n)
