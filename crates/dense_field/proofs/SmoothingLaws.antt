-- One round of smoothing: which points stay, which are blended, and how rows and slabs make up the whole.
use Rattle.std.proofs.Common.{◌≡◌, ℕ, zero, suc, ◌+◌, ◌-◌, ◌*◌, ◌<◌, ◌≤◌, Bool, true, false, ◌||◌, eqb, List, length, get_or, refl, ap, ◌∙◌, subst, add-zero, mul_assoc, suc-mul, mul_comm, arith, eq-eqb}
use mathlib.Core.Bool.{or-true}
use lib.Ieee.{Float, nan, binary64, add, sub, mul, div, of_bits, of_int}
use Rattle.lists.specs.Filled.{filled}
use Rattle.lists.proofs.Tests.{or_left, or_right}
use Rattle.std.proofs.lemmas.List.{get_or_default}
use Rattle.lists.proofs.Tables.{length_tabulate}
use Rattle.lists.proofs.Filling.{filled_same, filled_more, filled_all}
use Rattle.float.specs.Zero.{plus_zero}
use Rattle.geometry.specs.declared.Vec3i.{Vec3i}
use Rattle.geometry.specs.Values.{vec3i}
use Rattle.geometry.specs.Index.{place_of}
use Rattle.geometry.specs.Axis.{as_float}
use Rattle.dense_field.specs.Field.{points_of, on_edge, outside}
use Rattle.dense_field.specs.Inner.Lent.{Between}
use Rattle.dense_field.specs.Inner.Offsets.{offset_sum, offset_blend}
use Rattle.dense_field.specs.Smoothing.{neighbour_sum, value_of, blended, blended_at, smoothed_at, smoothed_once, smoothed}
use Rattle.dense_field.proofs.Edges.{edge_first, edge_last, edge_none, row_from, point_at, point_of_row, out_i, out_j, not_out, outer_slab}

-- what is read past the end does not count where the six neighbours stand in the list
pub neighbours_read : (n : Vec3i) (vs : List Float) (p : ℕ) → Between n p 1 (length vs) (length vs)
    → (let at : ℕ → Float = λ q. get_or vs q nan in
    add binary64
    (add binary64
    (add binary64 (add binary64 (add binary64 (at (p + 1)) (at (p - 1))) (at (p + n.i))) (at (p - n.i)))
    (at (p + n.i * n.j))) (at (p - n.i * n.j)))
    ≡ offset_sum n vs p
unfolding offset_sum
neighbours_read n vs p w =
    let e1 = get_or_default vs (p + 1) nan plus_zero (omega arith) in
    let e2 = get_or_default vs (p - 1) nan plus_zero (omega arith) in
    let e3 = get_or_default vs (p + n.i) nan plus_zero (omega arith) in
    let e4 = get_or_default vs (p - n.i) nan plus_zero (omega arith) in
    let e5 = get_or_default vs (p + n.i * n.j) nan plus_zero (omega arith) in
    let e6 = get_or_default vs (p - n.i * n.j) nan plus_zero (omega arith) in
    λ i. add binary64 (add binary64 (add binary64 (add binary64 (add binary64 (e1 i) (e2 i)) (e3 i)) (e4 i)) (e5 i)) (e6 i)

-- the code's constants
pub one_as_float : of_bits binary64 4607182418800017408 ≡ as_float 1
unfolding of_bits of_int
one_as_float = refl

six_as_float : of_bits binary64 4618441417868443648 ≡ as_float 6
unfolding of_bits of_int
six_as_float = refl

-- the value that the loop stores
pub blended_read : (n : Vec3i) (f : Float) (vs : List Float) (p : ℕ) {keep sum : Float} → p < length vs
    → keep ≡ sub binary64 (as_float 1) f → sum ≡ offset_sum n vs p
    → add binary64 (mul binary64 keep (get_or vs p nan)) (mul binary64 f (div binary64 sum (of_bits binary64 4618441417868443648))) ≡ offset_blend n f vs p
unfolding offset_blend blended
blended_read n f vs p below kept summed =
    let read = get_or_default vs p nan plus_zero below in
    λ i. add binary64 (mul binary64 (kept i) (read i)) (mul binary64 f (div binary64 (summed i) (six_as_float i)))

-- the index 0, and every index of an axis of one or two points, is on an edge
only_first : (i n : ℕ) → i < 1 → on_edge i n ≡ true
only_first zero n h = edge_first 0 n refl
only_first (suc i) n h = absurd (omega arith)

thin_edge : (i n : ℕ) → n < 3 → i < n → on_edge i n ≡ true
unfolding on_edge
thin_edge zero n thin below = refl
thin_edge (suc i) n thin below = rw (eq-eqb (suc i + 1) n (omega arith)) (or-true (eqb (suc i) 0))

-- an index that is on no edge is not the first
not_first : (i n : ℕ) → on_edge i n ≡ false → 0 < i
unfolding on_edge
not_first zero n off =
    let first = edge_first 0 n refl in
    let no : ◌≡◌ {A = ℕ} 0 1 = cc in
    omega arith
not_first (suc i) n off = omega arith

module _ (n : Vec3i) where
  -- THE OFFSETS: the neighbours of an inner point stand a place, a row and a slab away from it
  offsets : (vs : List Float) (i j k : ℕ) → 0 < i → 0 < j → 0 < k → offset_sum n vs (row_from n j k + i) ≡ neighbour_sum n vs (vec3i i j k)
  unfolding offset_sum neighbour_sum place_of
  offsets vs (suc i) (suc j) (suc k) hi hj hk =
      let at : ℕ → Float = value_of vs in
      let slab : (d : ℕ) → d * n.i * n.j ≡ d * (n.i * n.j) = λ d. mul_assoc d n.i n.j in
      let back : (m : ℕ) → suc m - 1 ≡ m = λ m. omega arith in
      let on : (m : ℕ) → suc m + 1 ≡ suc (suc m) = λ m. omega arith in
      let p = row_from n (suc j) (suc k) + suc i in
      let e1 : p + 1 ≡ suc k * n.i * n.j + suc j * n.i + (suc i + 1) = omega (arith, slab (suc k)) in
      let e2 : p - 1 ≡ suc k * n.i * n.j + suc j * n.i + (suc i - 1) = omega (arith, slab (suc k)) in
      let e3 : p + n.i ≡ suc k * n.i * n.j + (suc j + 1) * n.i + suc i =
      omega (arith, slab (suc k), ap (λ (m : ℕ). m * n.i) (on j), suc-mul (suc j) n.i) in
      let e4 : p - n.i ≡ suc k * n.i * n.j + (suc j - 1) * n.i + suc i =
      omega (arith, slab (suc k), ap (λ (m : ℕ). m * n.i) (back j), suc-mul j n.i) in
      let e5 : p + n.i * n.j ≡ (suc k + 1) * n.i * n.j + suc j * n.i + suc i =
      omega (arith, slab (suc k + 1), ap (λ (m : ℕ). m * (n.i * n.j)) (on k), suc-mul (suc k) (n.i * n.j)) in
      let e6 : p - n.i * n.j ≡ (suc k - 1) * n.i * n.j + suc j * n.i + suc i =
      omega (arith, slab (suc k - 1), ap (λ (m : ℕ). m * (n.i * n.j)) (back k), suc-mul k (n.i * n.j)) in
      λ t. add binary64 (add binary64 (add binary64 (add binary64 (add binary64 (at (e1 t)) (at (e2 t))) (at (e3 t))) (at (e4 t))) (at (e5 t))) (at (e6 t))
  offsets vs zero j k hi hj hk = absurd (omega arith)
  offsets vs (suc i) zero k hi hj hk = absurd (omega arith)
  offsets vs (suc i) (suc j) zero hi hj hk = absurd (omega arith)

  module _ (f : Float) (vs : List Float) where
    -- a point on the outside stays
    stays : (p : ℕ) → outside n (point_at n p) ≡ true → value_of vs p ≡ smoothed_at n f vs p
    unfolding smoothed_at
    stays p out = rw out refl

    stays_at : (i j k : ℕ) → i < n.i → j < n.j → outside n (vec3i i j k) ≡ true
        → value_of vs (row_from n j k + i) ≡ smoothed_at n f vs (row_from n j k + i)
    stays_at i j k hi hj out = stays (row_from n j k + i) (ap (outside n) (point_of_row n i j k hi hj) ∙ out)

    -- a point inside is blended
    inner : (i j k : ℕ) → i < n.i → j < n.j → outside n (vec3i i j k) ≡ false
        → offset_blend n f vs (row_from n j k + i) ≡ smoothed_at n f vs (row_from n j k + i)
    unfolding smoothed_at blended_at offset_blend outside
    inner i j k hi hj out =
        let at = point_of_row n i j k hi hj in
        let plane = or_left (on_edge i n.i || on_edge j n.j) (on_edge k n.k) out in
        let sum = offsets vs i j k
        (not_first i n.i (or_left (on_edge i n.i) (on_edge j n.j) plane))
        (not_first j n.j (or_right (on_edge i n.i) (on_edge j n.j) plane))
        (not_first k n.k (or_right (on_edge i n.i || on_edge j n.j) (on_edge k n.k) out)) in
        rw (at, out, sum) refl

    -- a stretch of a row whose points are all on the outside, or all inside
    stretch : (out : Bool) (g : ℕ → Float)
        → ((i j k : ℕ) → i < n.i → j < n.j → outside n (vec3i i j k) ≡ out → g (row_from n j k + i) ≡ smoothed_at n f vs (row_from n j k + i))
        → (j k from count : ℕ) (l : List Float) → j < n.j → from + count ≤ n.i
        → ((i : ℕ) → from ≤ i → i < from + count → outside n (vec3i i j k) ≡ out)
        → filled (row_from n j k + from) count g l ≡ filled (row_from n j k + from) count (smoothed_at n f vs) l
    stretch out g value j k from count l hj within test =
        filled_same (row_from n j k + from) count g (smoothed_at n f vs) l
        (λ q above below.
        let i = q - row_from n j k in
        let e : row_from n j k + i ≡ q = omega arith in
        let hi : i < n.i = omega arith in
        subst (λ (p : ℕ). g p ≡ smoothed_at n f vs p) e (value i j k hi hj (test i (omega arith) (omega arith))))

    -- a row that stays: all of its points are on the outside
    row_stays : (j k : ℕ) (l : List Float) {x : List Float} → j < n.j
        → ((i : ℕ) → i < n.i → outside n (vec3i i j k) ≡ true)
        → x ≡ filled (row_from n j k) n.i (value_of vs) l → x ≡ filled (row_from n j k) n.i (smoothed_at n f vs) l
    row_stays j k l hj out copied =
        let none : row_from n j k + 0 ≡ row_from n j k = add-zero (row_from n j k) in
        copied ∙ (rw none at (stretch true (value_of vs) stays_at j k 0 n.i l hj (omega arith) (λ i above below. out i (omega arith))))

    pub thin_row : (j k : ℕ) (l : List Float) {x : List Float} → j < n.j → n.i < 3
        → x ≡ filled (row_from n j k) n.i (value_of vs) l → x ≡ filled (row_from n j k) n.i (smoothed_at n f vs) l
    thin_row j k l hj thin = row_stays j k l hj (λ i hi. out_i n (vec3i i j k) (thin_edge i n.i thin hi))

    pub edge_row : (j k : ℕ) (l : List Float) {x : List Float} → j < n.j → on_edge j n.j ≡ true
        → x ≡ filled (row_from n j k) n.i (value_of vs) l → x ≡ filled (row_from n j k) n.i (smoothed_at n f vs) l
    edge_row j k l hj edge = row_stays j k l hj (λ i hi. out_j n (vec3i i j k) edge)

    -- an inner row: its ends stay, and what is between them is blended
    pub inner_row : (j k : ℕ) (l : List Float) {a b c : List Float} → 2 < n.i → 0 < j → j + 1 < n.j → 0 < k → k + 1 < n.k
        → a ≡ filled (row_from n j k) 1 (value_of vs) l
        → b ≡ filled (row_from n j k + 1) (n.i - 2) (offset_blend n f vs) a
        → c ≡ filled (row_from n j k + 1 + (n.i - 2)) 1 (value_of vs) b
        → c ≡ filled (row_from n j k) n.i (smoothed_at n f vs) l
    inner_row j k l {a} {b} {c} wide j_above j_below k_above k_below first middle last =
        let s = row_from n j k in
        let m = 1 + (n.i - 2) in
        let g = smoothed_at n f vs in
        let hj : j < n.j = omega arith in
        let none : s + 0 ≡ s = add-zero s in
        let place : s + 1 + (n.i - 2) ≡ s + m = omega arith in
        let whole : m + 1 ≡ n.i = omega arith in
        let begun : a ≡ filled s 1 g l =
        first
        ∙ (rw none at
        (stretch true (value_of vs) stays_at j k 0 1 l hj (omega arith)
        (λ i above below. out_i n (vec3i i j k) (only_first i n.i (omega arith))))) in
        let middled : b ≡ filled s m g l =
        filled_more s 1 (n.i - 2) g l begun
        (middle
        ∙ stretch false (offset_blend n f vs) inner j k 1 (n.i - 2) a hj (omega arith)
        (λ i above below. not_out n (vec3i i j k) (edge_none i n.i (omega arith) (omega arith))
        (edge_none j n.j j_above j_below) (edge_none k n.k k_above k_below)))
        refl in
        filled_more s m 1 g l middled
        (last
        ∙ ap (λ (p : ℕ). filled p 1 (value_of vs) b) place
        ∙ stretch true (value_of vs) stays_at j k m 1 b hj (omega arith) (λ i above below. out_i n (vec3i i j k) (edge_last i n.i (omega arith))))
        whole

    -- a whole slab that stays
    pub slab_stays : (k : ℕ) (l : List Float) {x : List Float} → on_edge k n.k ≡ true
        → x ≡ filled (k * (n.i * n.j)) (n.i * n.j) (value_of vs) l
        → x ≡ filled (k * (n.i * n.j)) (n.i * n.j) (smoothed_at n f vs) l
    slab_stays k l edge copied =
        copied
        ∙ filled_same (k * (n.i * n.j)) (n.i * n.j) (value_of vs) (smoothed_at n f vs) l
        (λ q from below. stays q (outer_slab n k edge q from below))

    -- all slabs are the whole round
    pub all_slabs : (k : ℕ) (l : List Float) {x : List Float} → length l ≡ points_of n → k ≡ n.k
        → x ≡ filled 0 (k * (n.i * n.j)) (smoothed_at n f vs) l → x ≡ smoothed_once n f vs
    unfolding smoothed_once
    all_slabs k l long last so_far =
        let whole : k * (n.i * n.j) ≡ points_of n = ap (λ (m : ℕ). m * (n.i * n.j)) last ∙ mul_comm n.k (n.i * n.j) in
        so_far ∙ ap (λ (m : ℕ). filled 0 m (smoothed_at n f vs) l) whole ∙ filled_all (points_of n) (smoothed_at n f vs) l plus_zero long

-- rounds one after the other
module _ (n : Vec3i) (f : Float) (vs : List Float) where
  pub once_length : length (smoothed_once n f vs) ≡ points_of n
  unfolding smoothed_once
  once_length = length_tabulate (points_of n) (smoothed_at n f vs)

  pub no_rounds : (r : ℕ) → 0 ≡ r → vs ≡ smoothed n f r vs
  unfolding smoothed
  no_rounds r none = ap (λ (m : ℕ). smoothed n f m vs) none

  pub rounds_done : {r t : ℕ} {x : List Float} → x ≡ smoothed n f r vs → r ≡ t → x ≡ smoothed n f t vs
  rounds_done so_far last = so_far ∙ ap (λ (m : ℕ). smoothed n f m vs) last

  pub round_more : {r t : ℕ} {x y : List Float} → x ≡ smoothed n f r vs → y ≡ smoothed_once n f x → suc r ≡ t → y ≡ smoothed n f t vs
  unfolding smoothed
  round_more so_far once next = once ∙ ap (smoothed_once n f) so_far ∙ ap (λ (m : ℕ). smoothed n f m vs) next
