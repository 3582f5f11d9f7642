-- A child's eight corners: their places from the first one, all below the node's (n + 1)³.
use Rattle.std.proofs.Common.{◌≡◌, ℕ, ◌+◌, ◌*◌, ◌<◌, ◌≤◌, List, [], ◌∷◌, length, get_or, refl, sym, subst, mul-le-mul_right, mul_assoc, div-lt_iff_lt-mul, mul-pos, arith}
use Rattle.geometry.specs.declared.Vec3i.{Vec3i}
use Rattle.geometry.specs.Index.{place_of, indices_of}
use Rattle.geometry.specs.Octet.{octet_order, octet_places}
use Rattle.geometry.proofs.Inverse.{column_below, line_below}
use Rattle.grid.specs.Blocks.{cube}
use Rattle.grid.specs.Boxes.{child_indices}
use Rattle.grid.specs.Corners.{octet}
use Rattle.grid.proofs.Eight.{each}

-- the eight, from the first
pub from_first : (at : Vec3i) (s : ℕ) → let a = at.k * (s * s) + at.j * s + at.i in
    ◌≡◌ {A = List ℕ}
    (a ∷ (a + 1) ∷ (a + s + 1) ∷ (a + s) ∷ (a + s * s) ∷ (a + s * s + 1) ∷ (a + s + s * s + 1) ∷ (a + s + s * s) ∷ [])
    (octet_places s s at)
unfolding octet_places octet_order place_of
from_first at s =
    let i = at.i in
    let j = at.j in
    let k = at.k in
    let a = k * (s * s) + j * s + i in
    let p0 : a ≡ (k + 0) * s * s + (j + 0) * s + (i + 0) = omega (arith, mul_assoc k s s) in
    let p1 : a + 1 ≡ (k + 0) * s * s + (j + 0) * s + (i + 1) = omega (arith, mul_assoc k s s) in
    let p2 : a + s + 1 ≡ (k + 0) * s * s + (j + 1) * s + (i + 1) = omega (arith, mul_assoc k s s) in
    let p3 : a + s ≡ (k + 0) * s * s + (j + 1) * s + (i + 0) = omega (arith, mul_assoc k s s) in
    let p4 : a + s * s ≡ (k + 1) * s * s + (j + 0) * s + (i + 0) = omega (arith, mul_assoc k s s) in
    let p5 : a + s * s + 1 ≡ (k + 1) * s * s + (j + 0) * s + (i + 1) = omega (arith, mul_assoc k s s) in
    let p6 : a + s + s * s + 1 ≡ (k + 1) * s * s + (j + 1) * s + (i + 1) = omega (arith, mul_assoc k s s) in
    let p7 : a + s + s * s ≡ (k + 1) * s * s + (j + 1) * s + (i + 0) = omega (arith, mul_assoc k s s) in
    λ t. p0 t ∷ p1 t ∷ p2 t ∷ p3 t ∷ p4 t ∷ p5 t ∷ p6 t ∷ p7 t ∷ []

-- the child's indices are below n
pub slab_below : (n c : ℕ) → 0 < n → c < cube n → (child_indices n c).k < n
unfolding indices_of
slab_below n c hn h = (div-lt_iff_lt-mul (mul-pos hn hn)).1 (omega (arith, mul_assoc n n n))

-- the last of the eight is below (n + 1)³
pub last_below : (n : ℕ) (at : Vec3i) → at.i < n → at.j < n → at.k < n → let s = n + 1 in
    at.k * (s * s) + at.j * s + at.i + s + s * s + 1 < cube s
last_below n at hi hj hk =
    let s = n + 1 in
    let slabs : at.k * (s * s) + s * s + s * s ≤ s * (s * s) = omega (arith, mul-le-mul_right (s * s) hk) in
    let rows : at.j * s + s + s ≤ s * s = omega (arith, mul-le-mul_right s hj) in
    omega (arith, mul_assoc s s s)

-- the indices of a child
pub record Within (n : ℕ) (at : Vec3i) : Type 0 where
  pub i_below : at.i < n
  pub j_below : at.j < n
  pub k_below : at.k < n

pub within : (n c : ℕ) → 0 < n → c < cube n → Within n (child_indices n c)
within n c hn hc = record { i_below = column_below c n n hn hn; j_below = line_below c n n hn hn; k_below = slab_below n c hn hc }

-- each of the eight places is below (n + 1)³
pub places_below : (n : ℕ) (at : Vec3i) → Within n at → (q : ℕ) → q < 8 → get_or (octet_places (n + 1) (n + 1) at) q 0 < cube (n + 1)
places_below n at w q hq =
    let s = n + 1 in
    let m = cube (n + 1) in
    let a = at.k * (s * s) + at.j * s + at.i in
    let last : a + s + s * s + 1 < m = last_below n at w.i_below w.j_below w.k_below in
    subst (λ (l : List ℕ). get_or l q 0 < m) (from_first at s)
    (each (λ (p : ℕ). p < m) 0 a (a + 1) (a + s + 1) (a + s) (a + s * s) (a + s * s + 1) (a + s + s * s + 1) (a + s + s * s)
    (omega arith) (omega arith) (omega arith) (omega arith) (omega arith) (omega arith) (omega arith) (omega arith) q hq)

pub octet_below : (n c : ℕ) → 0 < n → c < cube n → (q : ℕ) → q < 8 → get_or (octet n c) q 0 < cube (n + 1)
unfolding octet
octet_below n c hn hc = places_below n (child_indices n c) (within n c hn hc)

pub octet_length : (n c : ℕ) → length (octet n c) ≡ 8
unfolding octet octet_places octet_order
octet_length n c = refl

-- read one by one, they are inside the corners of a node
pub octet_inside : (p : List ℕ) (q n c long : ℕ) → p ≡ octet n c → 0 < n → c < cube n → cube (n + 1) ≤ long → q < 8 → get_or p q 0 < long
octet_inside p q n c long is some within room below =
    let place = octet_below n c some within q below in
    subst (λ (l : List ℕ). get_or l q 0 < long) (sym is) (omega (arith, place))
