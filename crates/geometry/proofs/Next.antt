-- The indices after a place's are those of the next place.
use mathlib.Core.Path.{◌≡◌, refl, sym, ap, ◌∙◌}
use mathlib.Core.Bool.{Bool, true, false, cond}
use Prim.Native.Nat.{ℕ, ◌+◌, ◌*◌, ◌≤◌, ◌<◌}
use native.Mathlib.Nat.{mul_comm, mul_assoc}
use native.Mathlib.Omega.{arith}
use lib.Dec.{ltb}
use borrow.Author.Tests.{ltb-true, ltb-false}
use Rattle.geometry.specs.Values.{vec3i}
use Rattle.geometry.specs.Index.{place_of, indices_of, next_indices}
use Rattle.geometry.specs.declared.Vec3i.{Vec3i}
use Rattle.geometry.proofs.Inverse.{indices_of_place, place_of_indices, column_below, line_below}

module _ (nx ny : ℕ) (hx : 0 < nx) (hy : 0 < ny) where
  -- where p stands, the indices (i, j, k) of p + 1 give its place
  arrive : (p i j k : ℕ) → i < nx → j < ny → place_of i j k nx ny ≡ p + 1 → vec3i i j k ≡ indices_of (p + 1) nx ny
  arrive p i j k hi hj e = sym (indices_of_place nx ny i j k hi hj) ∙ ap (λ (m : ℕ). indices_of m nx ny) e

  by_tests : (p : ℕ) (v : Vec3i) → v.k * nx * ny + v.j * nx + v.i ≡ p → v.i < nx → v.j < ny → (s t : Bool) → ltb (v.i + 1) nx ≡ s → ltb (v.j + 1) ny ≡ t
      → cond s (vec3i (v.i + 1) v.j v.k) (cond t (vec3i 0 (v.j + 1) v.k) (vec3i 0 0 (v.k + 1))) ≡ indices_of (p + 1) nx ny
  unfolding place_of
  by_tests p v here hi hj true t hs ht = arrive p (v.i + 1) v.j v.k (ltb-true _ _ hs) hj (omega arith)
  by_tests p v here hi hj false true hs ht =
      let last : nx ≤ v.i + 1 = ltb-false _ _ hs in
      arrive p 0 (v.j + 1) v.k hx (ltb-true _ _ ht) (omega arith)
  by_tests p v here hi hj false false hs ht =
      let last : nx ≤ v.i + 1 = ltb-false _ _ hs in
      let final : ny ≤ v.j + 1 = ltb-false _ _ ht in
      let rows : v.j + 1 ≡ ny = omega arith in
      let slab : (v.j + 1) * nx ≡ ny * nx = ap (λ (m : ℕ). m * nx) rows in
      arrive p 0 0 (v.k + 1) hx hy (omega (arith, mul_comm nx ny, mul_assoc v.k nx ny, mul_assoc (v.k + 1) nx ny))

  -- the indices after p's are those of p + 1
  pub next_of : (p : ℕ) → next_indices (indices_of p nx ny) nx ny ≡ indices_of (p + 1) nx ny
  unfolding next_indices place_of
  next_of p =
      by_tests p (indices_of p nx ny) (place_of_indices nx ny p) (column_below p nx ny hx hy) (line_below p nx ny hx hy) (ltb ((indices_of p nx ny).i + 1) nx) (ltb ((indices_of p nx ny).j + 1) ny) refl refl
