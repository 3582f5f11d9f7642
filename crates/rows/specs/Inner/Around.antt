-- The children around a corner: along an axis a corner lies between child i - 1, where there is one, and child i, where there is one.
use Rattle.std.specs.Prelude.{ℕ, ◌+◌, ◌*◌, ◌-◌, Bool, ◌&&◌, ◌||◌, ltb}
use Rattle.geometry.specs.declared.Vec3i.{Vec3i}

-- whether one of the two, of n along the axis, passes a test
unfoldable pub either : (n : ℕ) → (ℕ → Bool) → ℕ → Bool
either n test i = (ltb 0 i && test (i - 1)) || (ltb i n && test i)

-- the test for active children, asked of the two at i in the row of children that starts at child `first`
abbrev pub row_has : (n : ℕ) → (ℕ → Bool) → (first i : ℕ) → Bool
row_has n act first i = either n (λ c. act (first + c)) i

-- of the four at (i, j) in the slab that starts at child `first`
abbrev pub slab_has : (n : ℕ) → (ℕ → Bool) → (first i j : ℕ) → Bool
slab_has n act first i j = either n (λ c. row_has n act (first + c * n) i) j

-- of the eight at (i, j, k)
abbrev pub around : (n : ℕ) → (ℕ → Bool) → Vec3i → Bool
around n act at = either n (λ c. slab_has n act (c * n * n) at.i at.j) at.k
