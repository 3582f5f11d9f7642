-- Marks at the corners of active children: what a mark changes, where a child's corners stand, and one child more.
use Rattle.std.proofs.Common.{◌≡◌, ℕ, zero, suc, ◌+◌, ◌*◌, ◌/◌, ◌%◌, ◌<◌, ◌≤◌, Bool, true, false, cond, ◌&&◌, ◌||◌, eqb, List, [], ◌∷◌, length, get_or, set, refl, ap, ◌∙◌, mul-le-mul_right, mod-lt, mul_assoc, div-lt_iff_lt-mul, mul-le-mul, mul-pos, div-add-mod', arith, length-set, get_or-set_other, get_or-set_same, eq-eqb, ne_eqb, eqb-true}
use mathlib.Core.Bool.{and-false}
use borrow.Author.Tests.{eqb-false}
use Rattle.geometry.specs.declared.Vec3i.{Vec3i}
use Rattle.geometry.specs.Values.{vec3i}
use Rattle.geometry.specs.Index.{place_of, indices_of}
use Rattle.geometry.specs.Octet.{octet_order, octet_places}
use Rattle.geometry.proofs.Inverse.{indices_of_place}
use Rattle.lists.specs.Ranges.{any_below, among}
use Rattle.grid.specs.Blocks.{cube}
use Rattle.grid.specs.Boxes.{child_indices}
use Rattle.grid.specs.Corners.{octet, needed}
use Rattle.grid.specs.CornerList.{nonzero_at}
use Rattle.grid.specs.Inner.CornerMarks.{marked, eight_from, needed_to, Marks}
use Rattle.lists.proofs.Ranges.{any_below_none}

-- ---- whether an element is nonzero

pub is_nonzero : (l : List ℕ) (p : ℕ) → (get_or l p 0 ≡ 0 → ⊥) → nonzero_at l p ≡ true
unfolding nonzero_at
is_nonzero l p h = rw (ne_eqb _ _ h) refl

pub is_zero : (l : List ℕ) (p : ℕ) → get_or l p 0 ≡ 0 → nonzero_at l p ≡ false
unfolding nonzero_at
is_zero l p h = rw (eq-eqb _ _ h) refl

-- ---- marks in a list

pub length_marked : (list places : List ℕ) → length (marked list places) ≡ length list
unfolding marked
length_marked list [] = refl
length_marked list (p ∷ places) = length_marked (set list p 1) places ∙ length-set list p 1

pub get_or_marked : (list places : List ℕ) (q : ℕ) → q < length list → get_or (marked list places) q 0 ≡ cond (among q places) 1 (get_or list q 0)
unfolding marked among
get_or_marked list [] q h = refl
get_or_marked list (p ∷ places) q h =
    get_or_marked (set list p 1) places q (omega (arith, length-set list p 1)) ∙ one (eqb q p) refl
  where
    both : (b : Bool) → cond {A = ℕ} b 1 1 ≡ 1
    both true = refl
    both false = refl

    one : (b : Bool) → eqb q p ≡ b → cond (among q places) 1 (get_or (set list p 1) q 0) ≡ cond (eqb q p || among q places) 1 (get_or list q 0)
    one true t =
        let same : q ≡ p = eqb-true q p t in
        let stored : get_or (set list p 1) q 0 ≡ 1 = rw same (get_or-set_same list p 1 0 (omega arith)) in
        rw (t, stored) (both (among q places))
    one false t = rw (t, get_or-set_other list p q 1 0 (eqb-false q p t)) refl

-- ---- where a child's corners stand

-- the corners of the child at (i, j, k) among m by m by m
octet_eight : (m i j k : ℕ) → octet_places m m (vec3i i j k) ≡ eight_from (k * m * m + j * m + i) m
unfolding octet_places octet_order place_of eight_from
octet_eight m i j k =
    let p = k * m * m + j * m + i in
    let e0 : (k + 0) * m * m + (j + 0) * m + (i + 0) ≡ p = omega arith in
    let e1 : (k + 0) * m * m + (j + 0) * m + (i + 1) ≡ p + 1 = omega arith in
    let e2 : (k + 0) * m * m + (j + 1) * m + (i + 1) ≡ p + m + 1 = omega arith in
    let e3 : (k + 0) * m * m + (j + 1) * m + (i + 0) ≡ p + m = omega arith in
    let e4 : (k + 1) * m * m + (j + 0) * m + (i + 0) ≡ p + m * m = omega arith in
    let e5 : (k + 1) * m * m + (j + 0) * m + (i + 1) ≡ p + m * m + 1 = omega arith in
    let e6 : (k + 1) * m * m + (j + 1) * m + (i + 1) ≡ p + m * m + m + 1 = omega arith in
    let e7 : (k + 1) * m * m + (j + 1) * m + (i + 0) ≡ p + m * m + m = omega arith in
    λ t. e0 t ∷ e1 t ∷ e2 t ∷ e3 t ∷ e4 t ∷ e5 t ∷ e6 t ∷ e7 t ∷ []

-- the last of the eight is a corner of the node
last_below : (n i j k : ℕ) → i < n → j < n → k < n
    → let m = n + 1 in (k * m * m + j * m + i) + m * m + m + 1 < m * m * m
last_below n i j k hi hj hk =
    let m = n + 1 in
    let rows : (j + 1) * m ≤ n * m = mul-le-mul_right m hj' in
    let slabs : (k + 1) * (m * m) ≤ n * (m * m) = mul-le-mul_right (m * m) hk' in
    omega (arith, mul_assoc k m m, mul_assoc m m m, mul_assoc (k + 1) m m)
  where
    hj' : j + 1 ≤ n
    hj' = omega arith

    hk' : k + 1 ≤ n
    hk' = omega arith

-- the first corner of child c
pub first_corner : (n c : ℕ) → ℕ
first_corner n c = let v = child_indices n c in v.k * (n + 1) * (n + 1) + v.j * (n + 1) + v.i

pub octet_from : (n c : ℕ) → octet n c ≡ eight_from (first_corner n c) (n + 1)
unfolding octet first_corner
octet_from n c = let v = child_indices n c in octet_eight (n + 1) v.i v.j v.k

pub octet_below : (n c : ℕ) → c < cube n → first_corner n c + (n + 1) * (n + 1) + (n + 1) + 1 < cube (n + 1)
unfolding first_corner indices_of
octet_below zero c h = absurd (omega arith)
octet_below (suc m) c h =
    let n = suc m in
    let above : 0 < n = omega arith in
    let area : 0 < n * n = mul-pos above above in
    let v = child_indices n c in
    let i : v.i < n = mod-lt (c % (n * n)) above in
    let j : v.j < n = (div-lt_iff_lt-mul above).1 (mod-lt c area) in
    let k : v.k < n = (div-lt_iff_lt-mul area).1 (omega (arith, mul_assoc n n n)) in
    last_below n v.i v.j v.k i j k

-- child number i of a row
pub row_corner : (n row i : ℕ) → i < n → first_corner n (row * n + i) ≡ (row / n * (n + 1) + row % n) * (n + 1) + i
unfolding first_corner place_of
row_corner n row i h =
    let above : 0 < n = omega arith in
    let place : row * n + i ≡ place_of i (row % n) (row / n) n n = omega (arith, ap (λ (r : ℕ). r * n) (div-add-mod' row n)) in
    let at : child_indices n (row * n + i) ≡ vec3i i (row % n) (row / n) =
    ap (λ (c : ℕ). child_indices n c) place ∙ indices_of_place n n i (row % n) (row / n) h (mod-lt row above) in
    ap (λ (v : Vec3i). v.k * (n + 1) * (n + 1) + v.j * (n + 1) + v.i) at ∙ omega arith

-- ---- no corner past the node's is needed

among_eight : (p m corner : ℕ) → p + m * m + m + 1 < corner → among corner (eight_from p m) ≡ false
unfolding among eight_from
among_eight p m corner h =
    rw (
      ne_eqb corner p (λ e. omega arith),
      ne_eqb corner (p + 1) (λ e. omega arith),
      ne_eqb corner (p + m + 1) (λ e. omega arith),
      ne_eqb corner (p + m) (λ e. omega arith),
      ne_eqb corner (p + m * m) (λ e. omega arith),
      ne_eqb corner (p + m * m + 1) (λ e. omega arith),
      ne_eqb corner (p + m * m + m + 1) (λ e. omega arith),
      ne_eqb corner (p + m * m + m) (λ e. omega arith),
    )
    refl

pub needed_within : (n : ℕ) (act : ℕ → Bool) (corner : ℕ) → cube (n + 1) ≤ corner → needed n act corner ≡ false
unfolding needed
needed_within n act corner past =
    any_below_none (cube n) (λ c. act c && among corner (octet n c))
    (λ c h. rw (octet_from n c, among_eight (first_corner n c) (n + 1) corner (omega (arith, octet_below n c h))) (and-false (act c)))

-- ---- the marks of the children before c, and of c

module _ (n : ℕ) (kinds : List ℕ) (c : ℕ) (list : List ℕ) (m : Marks n kinds c list) where
  pub marks_more : nonzero_at kinds c ≡ true → Marks n kinds (suc c) (marked list (octet n c))
  unfolding needed_to any_below
  marks_more active =
      record {
        long = omega (arith, m.long, length_marked list (octet n c));
        marks =
            λ p h.
            get_or_marked list (octet n c) p (omega (arith, m.long))
            ∙ rw (m.marks p h, active) (joined (needed_to n (nonzero_at kinds) c p) (among p (octet n c)));
      }
    where
      joined : (a b : Bool) → cond b 1 (cond {A = ℕ} a 1 0) ≡ cond (a || b) 1 0
      joined true true = refl
      joined true false = refl
      joined false true = refl
      joined false false = refl

  pub marks_skip : nonzero_at kinds c ≡ false → Marks n kinds (suc c) list
  unfolding needed_to any_below
  marks_skip inactive =
      record {
        long = m.long;
        marks = λ p h. m.marks p h ∙ rw inactive (same (needed_to n (nonzero_at kinds) c p));
      }
    where
      same : (a : Bool) → cond {A = ℕ} a 1 0 ≡ cond (a || false) 1 0
      same true = refl
      same false = refl

-- ---- one row of children: what its indices come to, and one child more

pub record RowFits (n row : ℕ) : Type 0 where
  pub above : 0 < n
  pub last : row * n + n ≤ n * n * n
  pub few : n * n * n ≤ 262144
  pub slab : row / n * (n + 1) ≤ 4160
  pub line : row % n < n
  pub corner : (row / n * (n + 1) + row % n) * (n + 1) ≤ 274625

pub row_fits : (n row : ℕ) → n ≤ 64 → row < n * n → RowFits n row
row_fits zero row small h = absurd (omega arith)
row_fits (suc k) row small h =
    let n = suc k in
    let above : 0 < n = omega arith in
    let j : row % n < n = mod-lt row above in
    let i : row / n < n = (div-lt_iff_lt-mul above).1 h in
    let slab : row / n * (n + 1) ≤ 64 * 65 = mul-le-mul {n₂ = 64} {m₂ = 65} (omega arith) (omega arith) in
    let area : n * n ≤ 64 * 64 = mul-le-mul {n₂ = 64} {m₂ = 64} small small in
    let cubed : n * n * n ≤ 64 * 64 * 64 = mul-le-mul {n₂ = 64 * 64} {m₂ = 64} area small in
    let corner : (row / n * (n + 1) + row % n) * (n + 1) ≤ 4224 * 65 = mul-le-mul {n₂ = 4224} {m₂ = 65} (omega arith) (omega arith) in
    record {
      above = above;
      last = omega (arith, mul-le-mul_right n h);
      few = cubed;
      slab = slab;
      line = j;
      corner = omega (arith, corner);
    }

module _ (n row i : ℕ) (kinds list : List ℕ) (small : n ≤ 64) (below : row < n * n) (h : i < n) where
  child_below : row * n + i < cube n
  child_below = omega (arith, (row_fits n row small below).last)

  -- the child's last corner is one of the node
  pub row_octet_below : (row / n * (n + 1) + row % n) * (n + 1) + i + (n + 1) * (n + 1) + (n + 1) + 1 < cube (n + 1)
  row_octet_below = rw (row_corner n row i h) at (octet_below n (row * n + i) child_below)

  module _ (m : Marks n kinds (row * n + i) list) where
    pub row_more : {list' : List ℕ} → (get_or kinds (row * n + i) 0 ≡ 0 → ⊥)
        → list' ≡ marked list (eight_from ((row / n * (n + 1) + row % n) * (n + 1) + i) (n + 1)) → Marks n kinds (row * n + (i + 1)) list'
    row_more kind e =
        let active = is_nonzero kinds (row * n + i) kind in
        let places : octet n (row * n + i) ≡ eight_from ((row / n * (n + 1) + row % n) * (n + 1) + i) (n + 1) =
        octet_from n (row * n + i) ∙ ap (λ (p : ℕ). eight_from p (n + 1)) (row_corner n row i h) in
        let next : row * n + (i + 1) ≡ suc (row * n + i) = omega arith in
        rw (e, next, ← places) (marks_more n kinds (row * n + i) list m active)

    pub row_skip : {list' : List ℕ} → get_or kinds (row * n + i) 0 ≡ 0 → list' ≡ list → Marks n kinds (row * n + (i + 1)) list'
    row_skip kind e =
        let next : row * n + (i + 1) ≡ suc (row * n + i) = omega arith in
        rw (e, next) (marks_skip n kinds (row * n + i) list m (is_zero kinds (row * n + i) kind))
