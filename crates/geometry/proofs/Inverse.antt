-- The two index functions undo each other in range, both ways.
use mathlib.Core.Path.{◌≡◌, refl, ◌∙◌, ap}
use mathlib.Core.Bool.{false}
use Prim.Native.Nat.{ℕ, ◌+◌, ◌*◌, ◌/◌, ◌%◌, ◌<◌}
use native.Mathlib.Nat.{mul-pos, mul_comm, mul_assoc, mul-le-mul_right, div-add-mod', mod-lt, mod-eq_of_lt, div-eq_of_lt, mul-add-div_right, mul-add-mod_self_right, add-zero, div-lt_iff_lt-mul}
use native.Mathlib.Omega.{arith}
use borrow.Author.Tests.{lt-ltb}
use Rattle.geometry.specs.Values.{vec3i}
use Rattle.std.specs.Prelude.{Ok}
use Rattle.causes.specs.First.{first_of}
use Rattle.geometry.specs.Index.{dimensions_refused, place_of, indices_of, index1d_of, index3d_of}
use Rattle.geometry.proofs.Grid.{accepted, place_below}

-- q * d + r, taken apart by d
quotient : (q r d : ℕ) → r < d → (q * d + r) / d ≡ q
quotient q r d h = mul-add-div_right (omega arith) q r ∙ ap (λ (n : ℕ). q + n) (div-eq_of_lt h) ∙ add-zero q

remainder : (q r d : ℕ) → r < d → (q * d + r) % d ≡ r
remainder q r d h = mul-add-mod_self_right q d r ∙ mod-eq_of_lt h

module _ (nx ny : ℕ) where
  -- a place is k slabs, j rows and i
  slabs : (i j k : ℕ) → place_of i j k nx ny ≡ k * (nx * ny) + (j * nx + i)
  unfolding place_of
  slabs i j k = omega (arith, mul_assoc k nx ny)

  pub indices_of_place : (i j k : ℕ) → i < nx → j < ny → indices_of (place_of i j k nx ny) nx ny ≡ vec3i i j k
  unfolding indices_of
  indices_of_place i j k hi hj =
      let row : j * nx + i < nx * ny = omega (arith, mul-le-mul_right nx hj) in
      rw (slabs i j k)
      (rw (remainder k (j * nx + i) (nx * ny) row, quotient k (j * nx + i) (nx * ny) row, remainder j i nx hi, quotient j i nx hi) refl)

  pub place_of_indices : (n : ℕ) → let v = indices_of n nx ny in place_of v.i v.j v.k nx ny ≡ n
  unfolding indices_of
  place_of_indices n =
      slabs _ _ _ ∙ rw (div-add-mod' (n % (nx * ny)) nx) (div-add-mod' n (nx * ny))

-- the indices of a place are below their counts
module _ (n nx ny : ℕ) (hx : 0 < nx) (hy : 0 < ny) where
  pub column_below : (indices_of n nx ny).i < nx
  unfolding indices_of
  column_below = mod-lt (n % (nx * ny)) hx

  pub line_below : (indices_of n nx ny).j < ny
  unfolding indices_of
  line_below = (div-lt_iff_lt-mul hx).1 (omega (arith, mod-lt n (mul-pos hx hy), mul_comm nx ny))

  pub slab_below : (nz : ℕ) → n < nx * ny * nz → (indices_of n nx ny).k < nz
  unfolding indices_of
  slab_below nz h = (div-lt_iff_lt-mul (mul-pos hx hy)).1 (omega (arith, mul_comm (nx * ny) nz))

-- an index in range has its place, and the place gives the index back
module _ (nx ny nz : ℕ) (passed : dimensions_refused nx ny nz ≡ false) where
  pub there : (i j k : ℕ) → i < nx → j < ny → k < nz → index1d_of i j k nx ny nz ≡ Ok (place_of i j k nx ny)
  unfolding first_of index1d_of
  there i j k hi hj hk = simp (passed, lt-ltb _ _ hi, lt-ltb _ _ hj, lt-ltb _ _ hk)

  pub there_and_back : (i j k : ℕ) → i < nx → j < ny → k < nz → index3d_of (place_of i j k nx ny) nx ny nz ≡ Ok (vec3i i j k)
  unfolding first_of index3d_of place_of
  there_and_back i j k hi hj hk =
      simp (passed, lt-ltb _ _ (place_below (accepted nx ny nz passed) i j k hi hj hk))
      (ap Ok (indices_of_place nx ny i j k hi hj))

  pub back : (n : ℕ) → n < nx * ny * nz → index3d_of n nx ny nz ≡ Ok (indices_of n nx ny)
  unfolding first_of index3d_of
  back n h = simp (passed, lt-ltb _ _ h)

  -- a place in range has indices in range, and they give the place back
  pub back_and_there : (n : ℕ) → n < nx * ny * nz → let v = indices_of n nx ny in index1d_of v.i v.j v.k nx ny nz ≡ Ok n
  back_and_there n h =
      let g = accepted nx ny nz passed in
      let v = indices_of n nx ny in
      there v.i v.j v.k
      (column_below n nx ny g.x_above g.y_above)
      (line_below n nx ny g.x_above g.y_above)
      (slab_below n nx ny g.x_above g.y_above nz h)
      ∙ ap Ok (place_of_indices nx ny n)
