-- The laws behind the judgement of a record: counts, cursors, and active children by their kinds.
use mathlib.Core.Path.{◌≡◌, refl, sym, ap, ◌∙◌}
use mathlib.Core.Bool.{Bool, true, false, ◌&&◌}
use mathlib.Core.List.{List}
use Prim.Native.Nat.{ℕ, zero, suc, ◌+◌, ◌*◌, ◌/◌, ◌%◌, ◌≤◌, ◌<◌}
use native.Mathlib.Nat.{add-zero, add-suc, zero-mul, mul-le-mul_right, mul-add-div_right, div-eq_of_lt, mul-add-mod_self_right, mod-eq_of_lt, div-add-mod'}
use native.Mathlib.Numerals.{add-one}
use native.Mathlib.Omega.{arith}
use lib.Dec.{ltb, eqb}
use lib.ListN.{length, get_or, take}
use lib.Seq.{get_or-take, length-take-le}
use borrow.Author.Tests.{eq-eqb, ne_eqb, eqb-true, eqb-false, ltb-true}
use Rattle.schedule.specs.declared.Cursor.TheVariants.{Corner, Point}
use Rattle.lists.proofs.Tests.{and_left, and_right}
use Rattle.grid.specs.declared.Grid.{Grid}
use Rattle.grid.specs.Blocks.{cube}
use Rattle.grid.specs.Nodes.{nodes_of}
use Rattle.grid.specs.Boxes.{active}
use Rattle.grid.specs.Counting.{counts_of}
use Rattle.grid.specs.declared.GridCounts.{GridCounts}
use Rattle.schedule.specs.Plan.{Plan}
use Rattle.schedule.specs.declared.Cursor.{Cursor}
use Rattle.lists.specs.Sums.{sum_from, sum_below, bit}
use Rattle.schedule.specs.Totals.{count_before, active_before, active_up_to}
use Rattle.schedule.specs.Opened.{active_at, ActiveKinds}
use Rattle.lists.specs.Flags.{nonzero}
use Rattle.schedule.specs.Counts.{grid_counts, counts_with, same_counts}
use Rattle.schedule.specs.Possible.{valid_cursor}
use Rattle.lists.proofs.Sums.{sum_below_snoc, sum_below_cong}
use Rattle.schedule.proofs.Sums.{before_next, before_node}
use Rattle.schedule.proofs.Activity.{active_at_lem}
use Rattle.schedule.specs.declared.Counts.{Counts}
use Rattle.plans.specs.Plan.{plan_with}
use Rattle.plans.specs.Inner.GridPlan.{grid_plan}
use Rattle.plans.proofs.Plans.{counts_same}
use Rattle.float.specs.Zero.{plus_zero}
use Rattle.grid.specs.declared.Verdict.TheVariants.{Leaf}
use Rattle.judging.specs.Inner.Judged.{count_nonzero}
use Rattle.lists.proofs.Flags.{nonzero_true}

-- ---- products and quotients

pub sampled_by : (s q m : ℕ) → 0 < m → s % m ≡ 0 → eqb (s / m) q ≡ eqb s (q * m)
sampled_by s q m above e = one (eqb (s / m) q) refl
  where
    one : (b : Bool) → eqb (s / m) q ≡ b → eqb (s / m) q ≡ eqb s (q * m)
    one true t =
        let same = eqb-true (s / m) q t in
        t ∙ sym (eq-eqb s (q * m) (omega (arith, div-add-mod' s m, ap (λ (x : ℕ). x * m) same)))
    one false t =
        t ∙ sym (ne_eqb s (q * m) (λ same. eqb-false (s / m) q t
        (ap (λ (x : ℕ). x / m) (same ∙ sym (add-zero (q * m))) ∙ mul-add-div_right {m = m} above q 0
        ∙ ap (λ (x : ℕ). q + x) (div-eq_of_lt above) ∙ add-zero q)))

pub not_sampled : (s q m : ℕ) → 0 < m → (s % m ≡ 0 → ⊥) → false ≡ eqb s (q * m)
not_sampled s q m above ne =
    sym (ne_eqb s (q * m) (λ same. ne (ap (λ (x : ℕ). x % m) (same ∙ sym (add-zero (q * m))) ∙ mul-add-mod_self_right q m 0 ∙ mod-eq_of_lt above)))

-- ---- active children up to a place, by their kinds

module _ (P : Plan) where
  abbrev up_to : ℕ → ℕ
  up_to n = sum_below (λ j. bit (active_at P j)) n

  up_to_child : (v : ℕ) → v < P.nodes → up_to (v * P.children) ≡ active_before P v 0 → (c : ℕ) → c ≤ P.children
      → up_to (v * P.children + c) ≡ active_before P v c
  up_to_child v hv base zero h = rw (add-zero (v * P.children)) base
  up_to_child v hv base (suc c) h =
      let before = up_to_child v hv base c (omega arith) in
      ap up_to (add-suc (v * P.children) c)
      ∙ sum_below_snoc (λ j. bit (active_at P j)) (v * P.children + c)
      ∙ (λ t. before t + bit (active_at_lem P v c hv h t))
      ∙ sym (before_next P P.active v c)

  up_to_node : (v : ℕ) → v ≤ P.nodes → up_to (v * P.children) ≡ active_before P v 0
  unfolding count_before sum_from
  up_to_node zero h = ap up_to (zero-mul P.children) ∙ omega arith
  up_to_node (suc v) h =
      let next : suc v * P.children ≡ v * P.children + P.children = omega arith in
      ap up_to next ∙ up_to_child v h (up_to_node v (omega arith)) P.children (omega arith) ∙ sym (before_node P P.active v)

  pub count_up_to : (l : List ℕ) → ActiveKinds P l → P.nodes * P.children ≤ length l → (v c n : ℕ) → v < P.nodes → c ≤ P.children → n ≡ v * P.children + c
      → count_nonzero (take n l) ≡ active_before P v c
  count_up_to l right long v c n hv hc e =
      let inside : n ≤ length l = omega (arith, mul-le-mul_right P.children hv) in
      let size : length (take n l) ≡ n = length-take-le n l inside in
      ap (sum_below (λ p. bit (nonzero (get_or (take n l) p 0)))) size
      ∙ sum_below_cong n (λ p. bit (nonzero (get_or (take n l) p 0))) (λ j. bit (active_at P j))
      (λ p below. ap (λ (k : ℕ). bit (nonzero k)) (get_or-take n l p 0 below) ∙ ap bit (right p (omega arith)))
      ∙ ap up_to e
      ∙ up_to_child v hv (up_to_node v (omega arith)) c hc

-- ---- the count of nonzero kinds, one kind more

module _ (l : List ℕ) (i : ℕ) {n m : ℕ} (e : n ≡ sum_below (λ p. bit (nonzero (get_or l p 0))) i) where
  pub count_more : (get_or l i 0 ≡ 0 → ⊥) → m ≡ n + 1 → m ≡ sum_below (λ p. bit (nonzero (get_or l p 0))) (i + 1)
  count_more h k =
      let f : ℕ → ℕ = λ p. bit (nonzero (get_or l p 0)) in
      let one : f i ≡ 1 = ap bit (nonzero_true (get_or l i 0) h) in
      omega (arith, sum_below_snoc f i, ap (sum_below f) (add-one i))

  pub count_skip : get_or l i 0 ≡ 0 → m ≡ n → m ≡ sum_below (λ p. bit (nonzero (get_or l p 0))) (i + 1)
  count_skip h k =
      let f : ℕ → ℕ = λ p. bit (nonzero (get_or l p 0)) in
      let none : f i ≡ 0 = ap (λ (x : ℕ). bit (nonzero x)) h in
      omega (arith, sum_below_snoc f i, ap (sum_below f) (add-one i))

-- ---- the tests of counts

and_yes : (a : Bool) → (a && true) ≡ a
and_yes true = refl
and_yes false = refl

-- whether a grid's counts are the same
abbrev pub same_grid : GridCounts → GridCounts → Bool
same_grid a b = eqb a.nodes b.nodes && eqb a.active b.active

module _ (g : Grid) (c : Counts) where
  abbrev counted : Bool
  counted = same_counts c (counts_with (grid_plan g) c.leaves c.evaluations)

  grid_same : counts_of g ≡ grid_counts (grid_plan g)
  grid_same = counts_same g (λ b octet. Leaf) (λ x y z. plus_zero)

  pub counts_other : same_grid c.grid (counts_of g) ≡ false → false ≡ counted
  unfolding same_counts
  counts_other h = rw (sym (ap (same_grid c.grid) grid_same) ∙ h) refl

  pub counts_sampled : same_grid c.grid (counts_of g) ≡ true → {b : Bool} → b ≡ eqb c.sampled (c.leaves * cube g.leaf) → b ≡ counted
  unfolding same_counts plan_with
  counts_sampled h k =
      rw (sym (ap (same_grid c.grid) grid_same) ∙ h, eq-eqb c.leaves c.leaves refl, eq-eqb c.evaluations c.evaluations refl)
      (k ∙ sym (and_yes (eqb c.sampled (c.leaves * cube g.leaf))))

-- ---- the tests of cursors

module _ (g : Grid) (v : ℕ) where
  pub corner_valid : (k : ℕ) → valid_cursor (grid_plan g) (Corner v k) ≡ true → v < nodes_of g
  unfolding valid_cursor plan_with
  corner_valid k e =
      let a = ltb v (nodes_of g) in
      let b = ltb k (cube (g.inner + 1)) in
      ltb-true v (nodes_of g) (and_left a b (and_left (a && b) ((grid_plan g).needed v k) e))

  module _ (c p : ℕ) where
    pub point_valid : valid_cursor (grid_plan g) (Point v c p) ≡ true → (v < nodes_of g) × (c < cube g.inner)
    unfolding valid_cursor plan_with
    point_valid e =
        let a = ltb v (nodes_of g) in
        let b = ltb c (cube g.inner) in
        let d = active g v c in
        let both = and_left (a && b) d (and_left (a && b && d) (ltb p (cube g.leaf)) e) in
        (ltb-true v (nodes_of g) (and_left a b both), ltb-true c (cube g.inner) (and_right a b both))

-- ---- active children up to a cursor, by the kinds before a place

pub record UpTo (P : Plan) (l : List ℕ) (n : ℕ) (a : Cursor) : Type 0 where
  pub inside : n ≤ length l
  pub count : count_nonzero (take n l) ≡ active_up_to P a

module _ (g : Grid) (l : List ℕ) (long : nodes_of g * cube g.inner ≤ length l) (right : ActiveKinds (grid_plan g) l) (v n : ℕ) (e : n ≡ cube g.inner) where
  pub corner_up_to : (q : ℕ) → valid_cursor (grid_plan g) (Corner v q) ≡ true → UpTo (grid_plan g) l (v * n) (Corner v q)
  unfolding active_up_to plan_with
  corner_up_to q ok =
      let m = cube g.inner in
      let below : v < nodes_of g = corner_valid g v q ok in
      let place : v * n ≡ v * m + 0 = ap (λ (x : ℕ). v * x) e ∙ sym (add-zero (v * m)) in
      record {
        inside = omega (arith, long, mul-le-mul_right m below);
        count = count_up_to (grid_plan g) l right long v 0 (v * n) below (omega arith) place;
      }

  pub point_up_to : (c p : ℕ) → valid_cursor (grid_plan g) (Point v c p) ≡ true → UpTo (grid_plan g) l (v * n + (c + 1)) (Point v c p)
  unfolding active_up_to plan_with
  point_up_to c p ok =
      let m = cube g.inner in
      let below = point_valid g v c p ok in
      let place : v * n + (c + 1) ≡ v * m + suc c = (λ t. v * e t + add-one c t) in
      record {
        inside = omega (arith, long, below.1, mul-le-mul_right m below.0);
        count = count_up_to (grid_plan g) l right long v (suc c) (v * n + (c + 1)) below.0 below.1 place;
      }
