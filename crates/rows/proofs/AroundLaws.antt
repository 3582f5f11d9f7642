-- A corner is needed exactly where one of the children around it is active.
use mathlib.Core.Path.{◌≡◌, refl, sym, ap, ◌∙◌, subst}
use mathlib.Core.Bool.{Bool, true, false, true≢false, ◌&&◌, ◌||◌, or-true}
use Prim.Native.Nat.{ℕ, ◌+◌, ◌*◌, ◌-◌, ◌≤◌, ◌<◌}
use native.Mathlib.Nat.{mul_assoc, mul-le-mul, mul-le-mul_right}
use native.Mathlib.Omega.{arith}
use borrow.Author.Tests.{lt-ltb, le-ltb, ltb-true}
use lib.Dec.{ltb}
use lib.ListN.{get_or}
use Rattle.geometry.specs.declared.Vec3i.{Vec3i}
use Rattle.geometry.specs.Values.{vec3i}
use Rattle.geometry.specs.Index.{place_of, indices_of}
use Rattle.geometry.specs.Octet.{octet_order, octet_places}
use Rattle.geometry.proofs.Inverse.{indices_of_place, place_of_indices}
use Rattle.lists.specs.Sums.{bit}
use Rattle.grid.specs.Blocks.{cube}
use Rattle.grid.specs.Boxes.{child_indices}
use Rattle.grid.specs.Corners.{octet, needed}
use Rattle.grid.proofs.Eight.{each}
use Rattle.grid.proofs.Needing.{needed_child, octet_needed}
use Rattle.grid.proofs.Octets.{within, octet_length}
use Rattle.rows.specs.Inner.Around.{either, row_has, slab_has, around}

-- ---- the two children along an axis

-- one of them, by the step from it to the corner
pub record Beside (n : ℕ) (test : ℕ → Bool) (i : ℕ) : Type 0 where
  pub child : ℕ
  pub step : Bool
  pub below : child < n
  pub is : child + bit step ≡ i
  pub passes : test child ≡ true

module _ (n : ℕ) (test : ℕ → Bool) (i : ℕ) where
  -- the tests that the code makes, in its order
  pub either_before : 0 < i → test (i - 1) ≡ true → either n test i ≡ true
  unfolding either
  either_before h e = rw (lt-ltb _ _ h, e) refl

  pub either_here : (0 < i → test (i - 1) ≡ false) → i < n → either n test i ≡ test i
  unfolding either
  either_here before h = rw (lt-ltb _ _ h) (by (ltb 0 i) refl)
    where
      by : (b : Bool) → ltb 0 i ≡ b → ((b && test (i - 1)) || test i) ≡ test i
      by true e = rw (before (ltb-true _ _ e)) refl
      by false e = refl

  pub either_none : (0 < i → test (i - 1) ≡ false) → n ≤ i → either n test i ≡ false
  unfolding either
  either_none before h = rw (le-ltb _ _ h) (by (ltb 0 i) refl)
    where
      by : (b : Bool) → ltb 0 i ≡ b → ((b && test (i - 1)) || false) ≡ false
      by true e = rw (before (ltb-true _ _ e)) refl
      by false e = refl

  pub beside : i ≤ n → either n test i ≡ true → Beside n test i
  unfolding either
  beside most e = by (ltb 0 i) (test (i - 1)) refl refl
    where
      here : (ltb i n && test i) ≡ true → (b : Bool) → ltb i n ≡ b → Beside n test i
      here h true lt = record { child = i; step = false; below = ltb-true _ _ lt; is = omega arith; passes = sym (ap (λ b. b && test i) lt) ∙ h }
      here h false lt = absurd (true≢false (sym h ∙ ap (λ b. b && test i) lt))

      by : (a b : Bool) → ltb 0 i ≡ a → test (i - 1) ≡ b → Beside n test i
      by true true ha hb =
          let above : 0 < i = ltb-true _ _ ha in
          record { child = i - 1; step = true; below = omega arith; is = omega arith; passes = hb }
      by true false ha hb = here (sym (rw (ha, hb) refl) ∙ e) (ltb i n) refl
      by false b ha hb = here (sym (rw ha refl) ∙ e) (ltb i n) refl

-- a child and a step to the corner, from either side
pub either_at : (n : ℕ) (test : ℕ → Bool) (c : ℕ) (step : Bool) → c < n → test c ≡ true → either n test (c + bit step) ≡ true
unfolding either
either_at n test c true h e =
    let back : c + 1 - 1 ≡ c = omega arith in
    rw (lt-ltb 0 (c + 1) (omega arith), back, e) refl
either_at n test c false h e =
    let same : c + 0 ≡ c = omega arith in
    rw (same, lt-ltb c n h, e) (or-true (ltb 0 c && test (c - 1)))

-- ---- the eight corners of a child, by the three steps

-- the number in octet order
abbrev octet_number : (a b c : Bool) → ℕ
octet_number false false false = 0
octet_number true false false = 1
octet_number true true false = 2
octet_number false true false = 3
octet_number false false true = 4
octet_number true false true = 5
octet_number true true true = 6
octet_number false true true = 7

number_below : (a b c : Bool) → octet_number a b c < 8
number_below false false false = omega arith
number_below true false false = omega arith
number_below true true false = omega arith
number_below false true false = omega arith
number_below false false true = omega arith
number_below true false true = omega arith
number_below true true true = omega arith
number_below false true true = omega arith

-- the corner's number by three steps from the child at `at`
abbrev stepped : (s : ℕ) → Vec3i → (a b c : Bool) → ℕ
stepped s at a b c = place_of (at.i + bit a) (at.j + bit b) (at.k + bit c) s s

number_is : (s : ℕ) (at : Vec3i) (a b c : Bool) → get_or (octet_places s s at) (octet_number a b c) 0 ≡ stepped s at a b c
unfolding octet_places octet_order
number_is s at false false false = refl
number_is s at true false false = refl
number_is s at true true false = refl
number_is s at false true false = refl
number_is s at false false true = refl
number_is s at true false true = refl
number_is s at true true true = refl
number_is s at false true true = refl

record Steps (s : ℕ) (at : Vec3i) (p : ℕ) : Type 0 where
  x : Bool
  y : Bool
  z : Bool
  is : p ≡ stepped s at x y z

steps : (s : ℕ) (at : Vec3i) (q : ℕ) → q < 8 → Steps s at (get_or (octet_places s s at) q 0)
unfolding octet_places octet_order
steps s at =
    each (Steps s at) 0 _ _ _ _ _ _ _ _
    record { x = false; y = false; z = false; is = refl }
    record { x = true; y = false; z = false; is = refl }
    record { x = true; y = true; z = false; is = refl }
    record { x = false; y = true; z = false; is = refl }
    record { x = false; y = false; z = true; is = refl }
    record { x = true; y = false; z = true; is = refl }
    record { x = true; y = true; z = true; is = refl }
    record { x = false; y = true; z = true; is = refl }

-- ---- rows and slabs lie within the children

pub row_within : (n j : ℕ) → j < n → j * n + n ≤ n * n
row_within n j h = omega (arith, mul-le-mul_right n h)

pub slab_within : (n k : ℕ) → k < n → k * n * n + n * n ≤ n * n * n
slab_within n k h = omega (arith, mul-le-mul_right (n * n) h, mul_assoc k n n, mul_assoc n n n)

pub rows_small : (n k : ℕ) → n ≤ 64 → k ≤ 64 → k * n ≤ 4096
rows_small n k hn hk = omega (arith, mul-le-mul hk hn)

-- ---- the children around a corner

module _ (n : ℕ) (act : ℕ → Bool) (above : 0 < n) where
  -- a needed corner lies beside an active child
  needed_around : (corner : ℕ) → needed n act corner ≡ true → around n act (indices_of corner (n + 1) (n + 1)) ≡ true
  unfolding octet place_of
  needed_around corner e =
      let c = needed_child n act corner e in
      let at = child_indices n c.child in
      let w = within n c.child above c.below in
      let q = c.has in
      let s = steps (n + 1) at q.at (omega (arith, q.below, octet_length n c.child)) in
      let there : indices_of corner (n + 1) (n + 1) ≡ vec3i (at.i + bit s.x) (at.j + bit s.y) (at.k + bit s.z) =
      ap (λ m. indices_of m (n + 1) (n + 1)) (sym q.is ∙ s.is)
      ∙ indices_of_place (n + 1) (n + 1) _ _ _ (step_below s.x w.i_below) (step_below s.y w.j_below) in
      subst (λ v. around n act v ≡ true) (sym there)
      (either_at n (λ k. slab_has n act (k * n * n) (at.i + bit s.x) (at.j + bit s.y)) at.k s.z w.k_below
      (either_at n (λ j. row_has n act (at.k * n * n + j * n) (at.i + bit s.x)) at.j s.y w.j_below
      (either_at n (λ i. act (at.k * n * n + at.j * n + i)) at.i s.x w.i_below
      (ap act (place_of_indices n n c.child) ∙ c.active))))
    where
      step_below : {i : ℕ} (step : Bool) → i < n → i + bit step < n + 1
      step_below true h = omega arith
      step_below false h = omega arith

  -- and a corner beside an active child is needed
  around_needed : (v : Vec3i) → v.i ≤ n → v.j ≤ n → v.k ≤ n → around n act v ≡ true
      → needed n act (place_of v.i v.j v.k (n + 1) (n + 1)) ≡ true
  unfolding octet place_of
  around_needed v hi hj hk e =
      let z = beside n (λ k. slab_has n act (k * n * n) v.i v.j) v.k hk e in
      let y = beside n (λ j. row_has n act (z.child * n * n + j * n) v.i) v.j hj z.passes in
      let x = beside n (λ i. act (z.child * n * n + y.child * n + i)) v.i hi y.passes in
      let at = vec3i x.child y.child z.child in
      let c = place_of x.child y.child z.child n n in
      let slabs = slab_within n z.child z.below in
      let below : c < cube n = omega (arith, x.below, row_within n y.child y.below, slabs) in
      let number = octet_number x.step y.step z.step in
      let same : get_or (octet n c) number 0 ≡ place_of v.i v.j v.k (n + 1) (n + 1) =
      ap (λ u. get_or (octet_places (n + 1) (n + 1) u) number 0) (indices_of_place n n x.child y.child z.child x.below y.below)
      ∙ number_is (n + 1) at x.step y.step z.step
      ∙ (λ t. place_of (x.is t) (y.is t) (z.is t) (n + 1) (n + 1)) in
      subst (λ m. needed n act m ≡ true) same
      (octet_needed n act c number below x.passes (number_below x.step y.step z.step))

  pub needed_is : (corner : ℕ) → corner < cube (n + 1) → around n act (indices_of corner (n + 1) (n + 1)) ≡ needed n act corner
  needed_is corner h =
      let v = indices_of corner (n + 1) (n + 1) in
      let w = within (n + 1) corner (omega arith) h in
      let back : around n act v ≡ true → needed n act corner ≡ true =
      λ e. subst (λ m. needed n act m ≡ true) (place_of_indices (n + 1) (n + 1) corner)
      (around_needed v (omega (arith, w.i_below)) (omega (arith, w.j_below)) (omega (arith, w.k_below)) e) in
      agree _ _ back (needed_around corner)
    where
      agree : (a b : Bool) → (a ≡ true → b ≡ true) → (b ≡ true → a ≡ true) → a ≡ b
      agree true b f g = sym (f refl)
      agree false true f g = g refl
      agree false false f g = refl
