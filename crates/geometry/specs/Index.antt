-- Places in a flat list, and the indices of a grid (rules B5 to B8).
use Rattle.std.specs.Prelude.{ℕ, ◌+◌, ◌*◌, ◌/◌, ◌%◌, Bool, not, cond, ◌&&◌, ◌||◌, [], ◌∷◌, eqb, ltb, Result}
use Rattle.geometry.specs.Values.{vec3i}
use Rattle.causes.specs.declared.Cause.{Cause}
use Rattle.causes.specs.declared.Cause.TheVariants.{Dimensions, Outside}
use Rattle.causes.specs.First.{refused_if, first_of}
use Rattle.geometry.specs.declared.Vec3i.{Vec3i}

-- cause 9 of the dimensions alone: one of them is 0, or their product is more than 16,777,216 (rule C9)
unfoldable pub dimensions_refused : (nx ny nz : ℕ) → Bool
dimensions_refused nx ny nz = eqb nx 0 || eqb ny 0 || eqb nz 0 || ltb 16777216 (nx * ny * nz)

-- the place of (i, j, k), i fastest (rule B5)
unfoldable pub place_of : (i j k nx ny : ℕ) → ℕ
place_of i j k nx ny = k * nx * ny + j * nx + i

-- the indices of a place, as math_helper.rs has them (rule B6)
unfoldable pub indices_of : (index nx ny : ℕ) → Vec3i
indices_of index nx ny =
    vec3i (index % (nx * ny) % nx) (index % (nx * ny) / nx) (index / (nx * ny))

-- the indices after (i, j, k) in a grid of nx by ny, i fastest (rule B8)
unfoldable pub next_indices : Vec3i → (nx ny : ℕ) → Vec3i
next_indices at nx ny =
    cond (ltb (at.i + 1) nx) (vec3i (at.i + 1) at.j at.k)
    (cond (ltb (at.j + 1) ny) (vec3i 0 (at.j + 1) at.k) (vec3i 0 0 (at.k + 1)))

-- 9, then cause 10 for an index that is not below its dimension; else the place (rules B7 and C10)
unfoldable pub index1d_of : (i j k nx ny nz : ℕ) → Result ℕ Cause
index1d_of i j k nx ny nz =
    first_of (refused_if (dimensions_refused nx ny nz) Dimensions ∷ refused_if (not (ltb i nx && ltb j ny && ltb k nz)) Outside ∷ [])
    (place_of i j k nx ny)

-- 9, then cause 10 for a place that is not below the product; else the indices (rules B7 and C10)
unfoldable pub index3d_of : (index nx ny nz : ℕ) → Result Vec3i Cause
index3d_of index nx ny nz =
    first_of (refused_if (dimensions_refused nx ny nz) Dimensions ∷ refused_if (not (ltb index (nx * ny * nz))) Outside ∷ [])
    (indices_of index nx ny)
