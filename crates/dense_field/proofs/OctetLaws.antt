-- A cell's corners in a field: the places of its octet, and what the walk's step tells of its cursor.
use Rattle.std.proofs.Common.{◌≡◌, ℕ, ◌+◌, ◌*◌, ◌<◌, ◌≤◌, List, [], ◌∷◌, length, get_or, ap, ◌∙◌, mul-le-mul_right, mul_assoc, arith}
use lib.Ieee.{Float, nan}
use Rattle.std.proofs.lemmas.List.{get_or_default}
use Rattle.float.specs.Zero.{plus_zero}
use Rattle.geometry.specs.declared.Vec3i.{Vec3i}
use Rattle.geometry.specs.Index.{place_of}
use Rattle.geometry.specs.Octet.{octet_order, octet_places}
use Rattle.dense_field.specs.Field.{points_of}
use Rattle.dense_field.specs.Inner.Lent.{Found}
use Rattle.dense_field.specs.Octets.{octet_of}

-- the octet's places stand in the field
pub record Reach (n c : Vec3i) (len : ℕ) : Type 0 where
  pub few : points_of n ≤ 16777216
  pub long : len ≡ points_of n
  pub area : n.i * n.j ≤ points_of n
  pub rows : c.j * n.i + n.i + n.i ≤ n.i * n.j
  pub slabs : c.k * (n.i * n.j) + n.i * n.j + n.i * n.j ≤ points_of n
  pub place : c.k * (n.i * n.j) + c.j * n.i + c.i + n.i * n.j + n.i + 1 < points_of n

pub reach : {n c : Vec3i} {len : ℕ} → Found n len c → Reach n c len
reach {n} {c} h =
    let rows : c.j * n.i + n.i + n.i ≤ n.i * n.j = omega (arith, mul-le-mul_right n.i h.j_in) in
    let slabs : c.k * (n.i * n.j) + n.i * n.j + n.i * n.j ≤ points_of n = omega (arith, mul-le-mul_right (n.i * n.j) h.k_in) in
    record { few = h.held.few; long = h.held.long; area = omega arith; rows = rows; slabs = slabs; place = omega arith }

module _ (n c : Vec3i) (vs : List Float) (h : Found n (length vs) c) where
  -- a read at a corner, by the place that the definition has
  read : (p i j k : ℕ) → p ≡ k * (n.i * n.j) + j * n.i + i → p < length vs → get_or vs p nan ≡ get_or vs (place_of i j k n.i n.j) plus_zero
  unfolding place_of
  read p i j k e below =
      let same : p ≡ k * n.i * n.j + j * n.i + i = omega (arith, mul_assoc k n.i n.j) in
      get_or_default vs p nan plus_zero below ∙ ap (λ (q : ℕ). get_or vs q plus_zero) same

  pub octet_read : (let row = n.i in
      let slab = n.i * n.j in
      let p = c.k * slab + c.j * row + c.i in
      let q = p + slab in
      let at : ℕ → Float = λ m. get_or vs m nan in
      at p ∷ at (p + 1) ∷ at (p + row + 1) ∷ at (p + row) ∷ at q ∷ at (q + 1) ∷ at (q + row + 1) ∷ at (q + row) ∷ []) ≡ octet_of n vs c
  unfolding octet_of octet_places octet_order
  octet_read =
      let row = n.i in
      let slab = n.i * n.j in
      let p = c.k * slab + c.j * row + c.i in
      let q = p + slab in
      let r = reach h in
      let e0 = read p (c.i + 0) (c.j + 0) (c.k + 0) (omega arith) (omega arith) in
      let e1 = read (p + 1) (c.i + 1) (c.j + 0) (c.k + 0) (omega arith) (omega arith) in
      let e2 = read (p + row + 1) (c.i + 1) (c.j + 1) (c.k + 0) (omega arith) (omega arith) in
      let e3 = read (p + row) (c.i + 0) (c.j + 1) (c.k + 0) (omega arith) (omega arith) in
      let e4 = read q (c.i + 0) (c.j + 0) (c.k + 1) (omega arith) (omega arith) in
      let e5 = read (q + 1) (c.i + 1) (c.j + 0) (c.k + 1) (omega arith) (omega arith) in
      let e6 = read (q + row + 1) (c.i + 1) (c.j + 1) (c.k + 1) (omega arith) (omega arith) in
      let e7 = read (q + row) (c.i + 0) (c.j + 1) (c.k + 1) (omega arith) (omega arith) in
      λ t. e0 t ∷ e1 t ∷ e2 t ∷ e3 t ∷ e4 t ∷ e5 t ∷ e6 t ∷ e7 t ∷ []
