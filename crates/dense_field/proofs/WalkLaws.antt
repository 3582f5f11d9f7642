-- Walks: what holds where cause 11 does not apply, and that a walk from its start visits every point, or cell, once,
-- in order, and then is done. So does the octet walker.
use Rattle.std.proofs.Common.{◌≡◌, ℕ, zero, suc, ◌+◌, ◌-◌, ◌*◌, ◌<◌, ◌≤◌, Bool, true, false, cond, not, ◌||◌, eqb, ltb, List, length, Option, Some, None, Result, Ok, Err, sym, refl, ap, ◌∙◌, mul-le-mul_right, mul_assoc, mul_comm, mul-pos, add-one, arith, ltb-false, ltb-true, le-ltb, lt-ltb, ne_eqb}
use lib.Ieee.{Float}
use borrow.Author.Tests.{eqb-false, not-false}
use Rattle.lists.proofs.Tests.{or_left, or_right}
use Rattle.geometry.specs.declared.Vec3i.{Vec3i}
use Rattle.geometry.specs.declared.BoundingBox.{BoundingBox}
use Rattle.geometry.specs.Values.{vec3i}
use Rattle.causes.specs.declared.Cause.{Cause}
use Rattle.causes.specs.declared.Cause.TheVariants.{Outside}
use Rattle.causes.specs.First.{first_of}
use Rattle.geometry.specs.Bounds.{box_refused}
use Rattle.geometry.specs.Index.{place_of, indices_of, next_indices}
use Rattle.geometry.proofs.Inverse.{indices_of_place, place_of_indices, column_below, line_below, slab_below}
use Rattle.geometry.proofs.Next.{next_of}
use Rattle.dense_field.specs.declared.Step.{Step}
use Rattle.dense_field.specs.Field.{points_of, values_refused}
use Rattle.dense_field.specs.Walks.{count_refused, walk_refused, walk_point, walk_cell, step_to, step_by, next_place, point_step, cell_step, no_cells, next_cell, octet_step}
use Rattle.dense_field.specs.Octets.{octet_of}
use Rattle.dense_field.specs.Traces.{after_step, cursor_after, trace, point_trace, cell_trace, octet_cell, octet_trace}

-- counts and a cursor that cause 11 does not refuse
pub record Walk (least : ℕ) (n c : Vec3i) : Type 0 where
  pub x_count : least ≤ n.i
  pub y_count : least ≤ n.j
  pub z_count : least ≤ n.k
  pub x_in : c.i < n.i
  pub y_in : c.j < n.j

count_least : (least n : ℕ) → count_refused least n ≡ false → least ≤ n
unfolding count_refused
count_least least n e = ltb-false n least (or_left _ _ e)

pub walk_passed : (least : ℕ) (n c : Vec3i) → walk_refused least n c ≡ false → Walk least n c
unfolding walk_refused
walk_passed least n c e =
    let x = count_refused least n.i in
    let y = count_refused least n.j in
    let z = count_refused least n.k in
    let i = not (ltb c.i n.i) in
    let j = not (ltb c.j n.j) in
    let four = or_left (x || y || z || i) j e in
    let three = or_left (x || y || z) i four in
    let two = or_left (x || y) z three in
    record {
      x_count = count_least least n.i (or_left x y two);
      y_count = count_least least n.j (or_right x y two);
      z_count = count_least least n.k (or_right (x || y) z three);
      x_in = ltb-true c.i n.i (not-false _ (or_right (x || y || z) i four));
      y_in = ltb-true c.j n.j (not-false _ (or_right (x || y || z || i) j e));
    }

module _ (n : Vec3i) where
  -- the next cursor is the indices of the next place
  next_index : (p : ℕ) → 0 < n.i → 0 < n.j → next_indices (indices_of p n.i n.j) n.i n.j ≡ indices_of (suc p) n.i n.j
  next_index p x_above y_above =
      next_of n.i n.j x_above y_above p ∙ ap (λ (q : ℕ). indices_of q n.i n.j) (add-one p)

  -- the first place and the one past the last
  first_index : 0 < n.i → 0 < n.j → vec3i 0 0 0 ≡ indices_of 0 n.i n.j
  unfolding place_of
  first_index x_above y_above =
      let none : place_of 0 0 0 n.i n.j ≡ 0 = omega (arith, mul_assoc 0 n.i n.j) in
      sym (indices_of_place n.i n.j 0 0 0 x_above y_above) ∙ ap (λ (p : ℕ). indices_of p n.i n.j) none

  end_index : 0 < n.i → 0 < n.j → indices_of (points_of n) n.i n.j ≡ vec3i 0 0 n.k
  unfolding place_of
  end_index x_above y_above =
      let all : points_of n ≡ place_of 0 0 n.k n.i n.j =
      omega (arith, mul_assoc n.k n.i n.j, mul_comm n.k (n.i * n.j)) in
      ap (λ (p : ℕ). indices_of p n.i n.j) all ∙ indices_of_place n.i n.j 0 0 n.k x_above y_above

  -- a walk of any kind, which finds `found p` at place p
  module _ {A : Type 0} (step : Vec3i → Result (Option (Step A)) Cause) (found : ℕ → A)
      (x_above : 0 < n.i) (y_above : 0 < n.j)
      (stands : (p : ℕ) → p < points_of n → step (indices_of p n.i n.j) ≡ Ok (Some (step_to (found p) (indices_of (suc p) n.i n.j))))
      (ends : step (vec3i 0 0 n.k) ≡ Ok None) where
    cursor_at : (p : ℕ) → p ≤ points_of n → cursor_after step p ≡ indices_of p n.i n.j
    unfolding cursor_after after_step
    cursor_at zero h = first_index x_above y_above
    cursor_at (suc p) h =
        ap (λ (c : Vec3i). after_step (step c) c) (cursor_at p (omega arith))
        ∙ ap (λ (s : Result (Option (Step A)) Cause). after_step s (indices_of p n.i n.j)) (stands p (omega arith))

    visits : (p : ℕ) → p < points_of n → trace step p ≡ Ok (Some (step_to (found p) (indices_of (suc p) n.i n.j)))
    visits p h = ap step (cursor_at p (omega arith)) ∙ stands p h

    cursor_stays : (q : ℕ) → cursor_after step (points_of n + q) ≡ vec3i 0 0 n.k
    unfolding cursor_after after_step
    cursor_stays zero =
        let all : points_of n + 0 ≡ points_of n = omega arith in
        ap (cursor_after step) all ∙ cursor_at (points_of n) (omega arith) ∙ end_index x_above y_above
    cursor_stays (suc q) =
        let next : points_of n + suc q ≡ suc (points_of n + q) = omega arith in
        ap (cursor_after step) next
        ∙ ap (λ (c : Vec3i). after_step (step c) c) (cursor_stays q)
        ∙ ap (λ (s : Result (Option (Step A)) Cause). after_step s (vec3i 0 0 n.k)) ends

    is_done : (q : ℕ) → (trace step (points_of n + q) ≡ Ok None) × (cursor_after step (points_of n + q) ≡ vec3i 0 0 n.k)
    is_done q = (ap step (cursor_stays q) ∙ ends, cursor_stays q)

-- counts that cause 11 does not refuse
pub record Counts (least : ℕ) (n : Vec3i) : Type 0 where
  pub x_passed : count_refused least n.i ≡ false
  pub y_passed : count_refused least n.j ≡ false
  pub z_passed : count_refused least n.k ≡ false

walk_goes : (least : ℕ) (n c : Vec3i) → Counts least n → c.i < n.i → c.j < n.j → walk_refused least n c ≡ false
unfolding walk_refused
walk_goes least n c s hi hj = simp (s.x_passed, s.y_passed, s.z_passed, lt-ltb _ _ hi, lt-ltb _ _ hj)

module _ (b : BoundingBox) (n : Vec3i) (box_passed : box_refused b ≡ false) where
  -- the walk stands at each place below the product in order, and is done from there on
  module _ {A : Type 0} (least : ℕ) (some : 0 < least) (s : Counts least n) (found : Vec3i → A) where
    x_some : 0 < n.i
    x_some = omega (arith, count_least least n.i s.x_passed)

    y_some : 0 < n.j
    y_some = omega (arith, count_least least n.j s.y_passed)

    abbrev step_at : Vec3i → Result (Option (Step A)) Cause
    step_at c = step_by (found c) (next_place least b n c)

    next_at : (p : ℕ) → p < points_of n → next_place least b n (indices_of p n.i n.j) ≡ Ok (Some (indices_of (suc p) n.i n.j))
    unfolding first_of next_place
    next_at p h =
        let v = indices_of p n.i n.j in
        simp (
          box_passed,
          walk_goes least n v s (column_below p n.i n.j x_some y_some)
              (line_below p n.i n.j x_some y_some),
          lt-ltb _ _ (slab_below p n.i n.j x_some y_some n.k h),
        )
        (ap (λ (c : Vec3i). Ok (Some c)) (next_index n p x_some y_some))

    none_next : next_place least b n (vec3i 0 0 n.k) ≡ Ok None
    unfolding first_of next_place
    none_next = simp (box_passed, walk_goes least n (vec3i 0 0 n.k) s x_some y_some, le-ltb n.k n.k (omega arith))

    stands_at : (p : ℕ) → p < points_of n
        → step_at (indices_of p n.i n.j) ≡ Ok (Some (step_to (found (indices_of p n.i n.j)) (indices_of (suc p) n.i n.j)))
    stands_at p h = ap (step_by (found (indices_of p n.i n.j))) (next_at p h)

    ends_at : step_at (vec3i 0 0 n.k) ≡ Ok None
    ends_at = ap (step_by (found (vec3i 0 0 n.k))) none_next

    place_walk : (p : ℕ) → p < points_of n
        → trace step_at p ≡ Ok (Some (step_to (found (indices_of p n.i n.j)) (indices_of (suc p) n.i n.j)))
    place_walk = visits n step_at (λ p. found (indices_of p n.i n.j)) x_some y_some stands_at ends_at

    place_walk_done : (q : ℕ) → (trace step_at (points_of n + q) ≡ Ok None) × (cursor_after step_at (points_of n + q) ≡ vec3i 0 0 n.k)
    place_walk_done = is_done n step_at (λ p. found (indices_of p n.i n.j)) x_some y_some stands_at ends_at

  -- the walk over points
  module _ (s : Counts 2 n) where
    pub point_walk : (p : ℕ) → p < points_of n
        → point_trace b n p ≡ Ok (Some (step_to (walk_point b n (indices_of p n.i n.j)) (indices_of (suc p) n.i n.j)))
    point_walk = place_walk 2 (omega arith) s (walk_point b n)

    pub point_walk_done : (q : ℕ) → (point_trace b n (points_of n + q) ≡ Ok None) × (cursor_after (point_step b n) (points_of n + q) ≡ vec3i 0 0 n.k)
    point_walk_done = place_walk_done 2 (omega arith) s (walk_point b n)

  -- and the walk over cells
  module _ (s : Counts 1 n) where
    pub cell_walk : (p : ℕ) → p < points_of n
        → cell_trace b n p ≡ Ok (Some (step_to (walk_cell b n (indices_of p n.i n.j)) (indices_of (suc p) n.i n.j)))
    cell_walk = place_walk 1 (omega arith) s (walk_cell b n)

    pub cell_walk_done : (q : ℕ) → (cell_trace b n (points_of n + q) ≡ Ok None) × (cursor_after (cell_step b n) (points_of n + q) ≡ vec3i 0 0 n.k)
    cell_walk_done = place_walk_done 1 (omega arith) s (walk_cell b n)

-- the octet walker stands at each of a field's cells in order, finds its octet there, and is done from there on
module _ (n : Vec3i) (vs : List Float) (passed : values_refused n (length vs) ≡ false) (x_more : 1 < n.i) (y_more : 1 < n.j) (z_more : 1 < n.k) where
  abbrev pub cells : Vec3i
  cells = vec3i (n.i - 1) (n.j - 1) (n.k - 1)

  abbrev pub cell_index : ℕ → Vec3i
  cell_index p = indices_of p cells.i cells.j

  x_cell : 0 < cells.i
  x_cell = omega arith

  y_cell : 0 < cells.j
  y_cell = omega arith

  cell_next : (p : ℕ) → p < points_of cells → next_cell n (length vs) (cell_index p) ≡ Ok (Some (cell_index (suc p)))
  unfolding next_cell no_cells
  cell_next p h =
      let z : 0 < cells.k = omega arith in
      simp (
        passed,
        ne_eqb cells.i 0 (λ e. omega arith),
        ne_eqb cells.j 0 (λ e. omega arith),
        ne_eqb cells.k 0 (λ e. omega arith),
        lt-ltb _ _ (column_below p cells.i cells.j x_cell y_cell),
        lt-ltb _ _ (line_below p cells.i cells.j x_cell y_cell),
        lt-ltb _ _ (slab_below p cells.i cells.j x_cell y_cell cells.k h),
      )
      (ap (λ (c : Vec3i). Ok (Some c)) (next_index cells p x_cell y_cell))

  none_after : next_cell n (length vs) (vec3i 0 0 cells.k) ≡ Ok None
  unfolding next_cell no_cells
  none_after =
      simp (
        passed,
        ne_eqb cells.i 0 (λ e. omega arith),
        ne_eqb cells.j 0 (λ e. omega arith),
        ne_eqb cells.k 0 (λ e. omega arith),
        le-ltb cells.k cells.k (omega arith),
      )

  octet_at : (p : ℕ) → p < points_of cells
      → octet_step n vs (cell_index p) ≡ Ok (Some (step_to (octet_of n vs (cell_index p)) (cell_index (suc p))))
  octet_at p h = ap (step_by (octet_of n vs (cell_index p))) (cell_next p h)

  octet_end : octet_step n vs (vec3i 0 0 cells.k) ≡ Ok None
  octet_end = ap (step_by (octet_of n vs (vec3i 0 0 cells.k))) none_after

  pub octet_walk : (p : ℕ) → p < points_of cells
      → octet_trace n vs p ≡ Ok (Some (step_to (octet_of n vs (cell_index p)) (cell_index (suc p))))
  octet_walk = visits cells (octet_step n vs) (λ p. octet_of n vs (cell_index p)) x_cell y_cell octet_at octet_end

  pub octet_walk_done : (q : ℕ) → (octet_trace n vs (points_of cells + q) ≡ Ok None) × (octet_cell n vs (points_of cells + q) ≡ vec3i 0 0 cells.k)
  octet_walk_done = is_done cells (octet_step n vs) (λ p. octet_of n vs (cell_index p)) x_cell y_cell octet_at octet_end

above : (m : ℕ) → (m ≡ 0 → ⊥) → 0 < m
above zero h = absurd (h refl)
above (suc m) h = omega arith

-- where one axis has one point there is no cell, and the walk is done at once (rule W7)
module _ (n : Vec3i) (vs : List Float) (passed : values_refused n (length vs) ≡ false) (no_cell : points_of (vec3i (n.i - 1) (n.j - 1) (n.k - 1)) ≡ 0) where
  no_next : next_cell n (length vs) (vec3i 0 0 0) ≡ Ok None
  unfolding next_cell no_cells
  no_next = simp (passed) (one (eqb (n.i - 1) 0) (eqb (n.j - 1) 0) (eqb (n.k - 1) 0) refl refl refl)
    where
      one : (x y z : Bool) → eqb (n.i - 1) 0 ≡ x → eqb (n.j - 1) 0 ≡ y → eqb (n.k - 1) 0 ≡ z
          → cond (x || y || z || not (ltb 0 (n.k - 1))) (Ok None)
          (cond (not (ltb 0 (n.i - 1)) || not (ltb 0 (n.j - 1))) (Err Outside)
          (Ok (Some (next_indices (vec3i 0 0 0) (n.i - 1) (n.j - 1)))))
          ≡ Ok None
      one true y z ex ey ez = refl
      one false true z ex ey ez = refl
      one false false true ex ey ez = refl
      one false false false ex ey ez =
          let x_above : 0 < n.i - 1 = above (n.i - 1) (eqb-false (n.i - 1) 0 ex) in
          let y_above : 0 < n.j - 1 = above (n.j - 1) (eqb-false (n.j - 1) 0 ey) in
          let z_above : 0 < n.k - 1 = above (n.k - 1) (eqb-false (n.k - 1) 0 ez) in
          let some : 0 < points_of (vec3i (n.i - 1) (n.j - 1) (n.k - 1)) = mul-pos (mul-pos x_above y_above) z_above in
          absurd (omega arith)

  done_at_once : octet_step n vs (vec3i 0 0 0) ≡ Ok None
  done_at_once = ap (step_by (octet_of n vs (vec3i 0 0 0))) no_next

  stays_first : (p : ℕ) → octet_cell n vs p ≡ vec3i 0 0 0
  unfolding cursor_after after_step
  stays_first zero = refl
  stays_first (suc p) =
      ap (λ (c : Vec3i). after_step (octet_step n vs c) c) (stays_first p)
      ∙ ap (λ (s : Result (Option (Step (List Float))) Cause). after_step s (vec3i 0 0 0)) done_at_once

  pub octet_walk_none : (p : ℕ) → (octet_trace n vs p ≡ Ok None) × (octet_cell n vs p ≡ vec3i 0 0 0)
  octet_walk_none p = (ap (octet_step n vs) (stays_first p) ∙ done_at_once, stays_first p)

-- no two places have the same indices, and each point of the grid has a place below the product
pub visited_once : (n : Vec3i) (p q : ℕ) → indices_of p n.i n.j ≡ indices_of q n.i n.j → p ≡ q
visited_once n p q same =
    sym (place_of_indices n.i n.j p)
    ∙ ap (λ (v : Vec3i). place_of v.i v.j v.k n.i n.j) same
    ∙ place_of_indices n.i n.j q

pub visited : (n c : Vec3i) → c.i < n.i → c.j < n.j → c.k < n.k
    → (p : ℕ) × (p < points_of n) × (indices_of p n.i n.j ≡ c)
unfolding place_of
visited n c hi hj hk =
    let row : c.j * n.i + n.i ≤ n.i * n.j = omega (arith, mul-le-mul_right n.i hj) in
    let slab : c.k * (n.i * n.j) + n.i * n.j ≤ points_of n = omega (arith, mul-le-mul_right (n.i * n.j) hk) in (
      place_of c.i c.j c.k n.i n.j,
      omega (arith, mul_assoc c.k n.i n.j),
      indices_of_place n.i n.j c.i c.j c.k hi hj,
    )
