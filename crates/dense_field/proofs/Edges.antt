-- Which places of a field stand on its outside. A row is the points of one j and k, and a slab those of one k.
use Rattle.std.proofs.Common.{◌≡◌, ℕ, ◌+◌, ◌-◌, ◌*◌, ◌<◌, ◌≤◌, true, false, eqb, sym, refl, ap, ◌∙◌, subst, add-zero, mul_assoc, arith, eq-eqb, ne_eqb}
use mathlib.Core.Bool.{or-true}
use native.Mathlib.Nat.{mul-add-div_right, div-eq_of_lt}
use Rattle.geometry.specs.declared.Vec3i.{Vec3i}
use Rattle.geometry.specs.Values.{vec3i}
use Rattle.geometry.specs.Index.{place_of, indices_of}
use Rattle.geometry.proofs.Inverse.{indices_of_place}
use Rattle.dense_field.specs.Field.{on_edge, outside}

-- the first and the last index of an axis, and one between them
pub edge_first : (i n : ℕ) → i ≡ 0 → on_edge i n ≡ true
unfolding on_edge
edge_first i n e = rw (eq-eqb i 0 e) refl

pub edge_last : (i n : ℕ) → i + 1 ≡ n → on_edge i n ≡ true
unfolding on_edge
edge_last i n e = rw (eq-eqb (i + 1) n e) (or-true (eqb i 0))

pub edge_none : (i n : ℕ) → 0 < i → i + 1 < n → on_edge i n ≡ false
unfolding on_edge
edge_none i n above below =
    let a : i ≡ 0 → ⊥ = λ e. omega arith in
    let b : i + 1 ≡ n → ⊥ = λ e. omega arith in
    rw (ne_eqb i 0 a, ne_eqb (i + 1) n b)

module _ (n : Vec3i) where
  -- where a row begins
  abbrev pub row_from : (j k : ℕ) → ℕ
  row_from j k = k * (n.i * n.j) + j * n.i

  -- the point at a place
  abbrev pub point_at : ℕ → Vec3i
  point_at p = indices_of p n.i n.j

  pub point_of_row : (i j k : ℕ) → i < n.i → j < n.j → point_at (row_from j k + i) ≡ vec3i i j k
  unfolding place_of
  point_of_row i j k hi hj =
      let same : row_from j k + i ≡ place_of i j k n.i n.j = omega (arith, mul_assoc k n.i n.j) in
      ap point_at same ∙ indices_of_place n.i n.j i j k hi hj

  slab_of_place : (k r : ℕ) → r < n.i * n.j → (point_at (k * (n.i * n.j) + r)).k ≡ k
  unfolding indices_of
  slab_of_place k r below =
      mul-add-div_right (omega arith) k r ∙ ap (λ (m : ℕ). k + m) (div-eq_of_lt below) ∙ add-zero k

  pub out_i : (at : Vec3i) → on_edge at.i n.i ≡ true → outside n at ≡ true
  unfolding outside
  out_i at e = rw e refl

  pub out_j : (at : Vec3i) → on_edge at.j n.j ≡ true → outside n at ≡ true
  unfolding outside
  out_j at e = simp (e, or-true)

  pub out_k : (at : Vec3i) → on_edge at.k n.k ≡ true → outside n at ≡ true
  unfolding outside
  out_k at e = simp (e, or-true)

  pub not_out : (at : Vec3i) → on_edge at.i n.i ≡ false → on_edge at.j n.j ≡ false → on_edge at.k n.k ≡ false → outside n at ≡ false
  unfolding outside
  not_out at x y z = rw (x, y, z) refl

  -- what holds of the points of a row holds at the row's places
  pub in_row : (P : ℕ → Vec3i → Type 0) (j k : ℕ) → j < n.j → ((i : ℕ) → i < n.i → P (row_from j k + i) (vec3i i j k))
      → (q : ℕ) → row_from j k ≤ q → q < row_from j k + n.i → P q (point_at q)
  in_row P j k hj holds q from below =
      let i = q - row_from j k in
      let e : row_from j k + i ≡ q = omega arith in
      let hi : i < n.i = omega arith in
      subst (λ (p : ℕ). P p (point_at p)) e (subst (P (row_from j k + i)) (sym (point_of_row i j k hi hj)) (holds i hi))

  -- every place of an outer slab, and of an outer row
  pub outer_slab : (k : ℕ) → on_edge k n.k ≡ true → (q : ℕ) → k * (n.i * n.j) ≤ q → q < k * (n.i * n.j) + n.i * n.j → outside n (point_at q) ≡ true
  outer_slab k edge q from below =
      let r = q - k * (n.i * n.j) in
      let e : k * (n.i * n.j) + r ≡ q = omega arith in
      let at : (point_at q).k ≡ k = ap (λ (p : ℕ). (point_at p).k) (sym e) ∙ slab_of_place k r (omega arith) in
      out_k (point_at q) (ap (λ (m : ℕ). on_edge m n.k) at ∙ edge)

  pub outer_row : (j k : ℕ) → j < n.j → on_edge j n.j ≡ true → (q : ℕ) → row_from j k ≤ q → q < row_from j k + n.i → outside n (point_at q) ≡ true
  outer_row j k hj edge = in_row (λ q at. outside n at ≡ true) j k hj (λ i hi. out_j (vec3i i j k) edge)

  -- the ends of a row, and a place between the ends of an inner row
  pub row_end : (i j k : ℕ) → i < n.i → j < n.j → on_edge i n.i ≡ true → outside n (point_at (row_from j k + i)) ≡ true
  row_end i j k hi hj edge = ap (outside n) (point_of_row i j k hi hj) ∙ out_i (vec3i i j k) edge

  pub row_inner : (i j k : ℕ) → 0 < i → i + 1 < n.i → 0 < j → j + 1 < n.j → 0 < k → k + 1 < n.k → outside n (point_at (row_from j k + i)) ≡ false
  row_inner i j k i_above i_below j_above j_below k_above k_below =
      ap (outside n) (point_of_row i j k (omega arith) (omega arith))
      ∙ not_out (vec3i i j k) (edge_none i n.i i_above i_below) (edge_none j n.j j_above j_below) (edge_none k n.k k_above k_below)
