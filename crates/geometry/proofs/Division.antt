-- The indices of a number by two divisions: a row's number, and what is left of each.
use mathlib.Core.Path.{◌≡◌, sym, ap, ◌∙◌}
use Prim.Native.Nat.{ℕ, ◌+◌, ◌*◌, ◌/◌, ◌%◌, ◌≤◌, ◌<◌}
use native.Mathlib.Nat.{mul_comm, mul_assoc, div-add-mod', mod-eq_of_lt, mul-add-div_right, mul-add-mod_self_right, div-div-eq-div-mul, div-le_self}
use native.Mathlib.Omega.{arith}
use Rattle.geometry.specs.Values.{vec3i}
use Rattle.geometry.specs.Index.{indices_of}
use Rattle.geometry.proofs.Inverse.{line_below}

module _ (n nx ny : ℕ) (hx : 0 < nx) (hy : 0 < ny) where
  -- n is so many slabs, and a rest within one
  whole : n / (nx * ny) * ny * nx + n % (nx * ny) ≡ n
  whole = omega (arith, div-add-mod' n (nx * ny), mul_assoc (n / (nx * ny)) ny nx, mul_comm ny nx)

  column : n % nx ≡ n % (nx * ny) % nx
  column = ap (λ (m : ℕ). m % nx) (sym whole) ∙ mul-add-mod_self_right (n / (nx * ny) * ny) nx (n % (nx * ny))

  rows : n / nx ≡ n / (nx * ny) * ny + n % (nx * ny) / nx
  rows = ap (λ (m : ℕ). m / nx) (sym whole) ∙ mul-add-div_right hx (n / (nx * ny) * ny) (n % (nx * ny))

  row_below : n % (nx * ny) / nx < ny
  unfolding indices_of
  row_below = line_below n nx ny hx hy

  row : n / nx % ny ≡ n % (nx * ny) / nx
  row =
      ap (λ (m : ℕ). m % ny) rows ∙ mul-add-mod_self_right (n / (nx * ny)) ny (n % (nx * ny) / nx) ∙ mod-eq_of_lt row_below

  pub by_rows : vec3i (n % nx) (n / nx % ny) (n / nx / ny) ≡ indices_of n nx ny
  unfolding indices_of
  by_rows = λ i. vec3i (column i) (row i) (div-div-eq-div-mul n nx ny i)

-- no slab has a number above the place's own
pub slab_le : (n nx ny : ℕ) → (indices_of n nx ny).k ≤ n
unfolding indices_of
slab_le n nx ny = div-le_self n (nx * ny)
