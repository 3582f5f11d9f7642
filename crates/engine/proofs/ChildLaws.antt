-- A child's turn, from what the code reads: its kind, its octet, and the points of its leaf.
use Prim.Native.Nat.{ℕ, suc, ◌+◌, ◌*◌, ◌-◌, ◌≤◌, ◌<◌, min}
use mathlib.Core.Path.{◌≡◌, sym, ap, ap₂, subst, ◌∙◌}
use mathlib.Core.Bool.{true, false, cond}
use mathlib.Core.List.{List}
use native.Mathlib.Nat.{mul-le-mul_right}
use native.Mathlib.Numerals.{add-one}
use native.Mathlib.Omega.{arith}
use lib.ListN.{set, get_or, length}
use lib.Dec.{ltb}
use lib.Ieee.{Float}
use borrow.Author.Tests.{lt-ltb, le-ltb}
use Rattle.lists.specs.Filled.{filled}
use Rattle.geometry.specs.declared.BoundingBox.{BoundingBox}
use Rattle.grid.specs.declared.Grid.{Grid}
use Rattle.grid.specs.Blocks.{cube}
use Rattle.grid.specs.Nodes.{nodes_of}
use Rattle.grid.specs.Boxes.{node_box, child_box}
use Rattle.grid.specs.Leaves.{leaf_point}
use Rattle.grid.specs.Inner.Octets.{octet_values}
use Rattle.grid.specs.declared.Verdict.{Verdict}
use Rattle.grid.specs.declared.Verdict.TheVariants.{Constant, Leaf}
use Rattle.grid.specs.declared.Kind.{Kind}
use Rattle.grid.specs.Kinds.{kind_number}
use Rattle.schedule.specs.Plan.{Plan}
use Rattle.schedule.specs.Memory.{Memory}
use Rattle.lists.specs.Flags.{nonzero}
use Rattle.lists.proofs.Flags.{nonzero_true}
use Rattle.schedule.specs.Totals.{count_of, count_all, active_all}
use Rattle.schedule.proofs.Sums.{before_below, before_most}
use Rattle.lists.proofs.Sums.{sum_from_most, sum_bits_most}
use Rattle.engine.specs.declared.Progress.{Progress}
use Rattle.schedule.specs.declared.Cursor.TheVariants.{Point}
use Rattle.std.specs.Prelude.{Some, None}
use Rattle.schedule.specs.Lent.{memory_of}
use Rattle.plans.specs.Plan.{box_of, plan_with}
use Rattle.geometry.specs.Values.{at}
use Rattle.engine.specs.Inner.Sizes.{Sized}
use Rattle.engine.specs.Inner.Progress.{Ready, progress, reading_in, ChildrenAdvanced, leaf_progress}
use Rattle.engine.proofs.Turns.{turn_active, turn_skip, turn_constant, turn_leaf, filled_store}

-- ---- how far a leaf's points have come

module _ (leaves b v c p points next : ℕ) (filled : next ≡ p + min b (points - p)) where
  left_over : b - (next - p) ≡ b - min b (points - p)
  left_over = omega (arith, filled)

  pub leaf_stopped : next < points → progress leaves (b - (next - p)) (Some (Point v c next)) ≡ leaf_progress leaves b v c p points
  unfolding leaf_progress
  leaf_stopped short =
      let so : ltb (p + min b (points - p)) points ≡ true = sym (ap (λ n. ltb n points) filled) ∙ lt-ltb next points short in
      λ i. record {
        leaves = leaves;
        left = left_over i;
        stop = (ap (λ n. Some (Point v c n)) filled ∙ sym (ap (λ x. cond x (Some (Point v c (p + min b (points - p)))) None) so)) i;
      }

  pub leaf_through : points ≤ next → progress leaves (b - (next - p)) None ≡ leaf_progress leaves b v c p points
  unfolding leaf_progress
  leaf_through long =
      let so : ltb (p + min b (points - p)) points ≡ false = sym (ap (λ n. ltb n points) filled) ∙ le-ltb next points long in
      λ i. record {
        leaves = leaves;
        left = left_over i;
        stop = sym (ap (λ x. cond x (Some (Point v c (p + min b (points - p)))) None) so) i;
      }

-- ---- a child's place

pub place_few : (g : Grid) (v c : ℕ) → Sized g → v < nodes_of g → c < cube g.inner → v * cube g.inner + c < 16777216
place_few g v c sized hv hc = omega (arith, mul-le-mul_right (cube g.inner) hv, sized.children)

-- there are few active children
pub active_few : (g : Grid) (decide : BoundingBox → List Float → Verdict) (value : Float → Float → Float → Float) → Sized g
    → active_all (plan_with g decide value) ≤ 16777216
unfolding plan_with count_all
active_few g decide value sized =
    let P : Plan = plan_with g decide value in
    omega (
      arith,
      sized.children,
      sum_from_most (λ v. count_of P.active v P.children) P.children (λ v. sum_bits_most (P.active v) P.children) P.nodes 0,
    )

-- so are the leaves before a child
pub leaves_few : (g : Grid) (decide : BoundingBox → List Float → Verdict) (value : Float → Float → Float → Float) (v c leaves : ℕ) (m : Memory)
    → Sized g → c < cube g.inner → Ready (plan_with g decide value) v c leaves m → leaves ≤ 16777216
unfolding plan_with
leaves_few g decide value v c leaves m sized below ready =
    let P : Plan = plan_with g decide value in
    omega (arith, ready.at_most, active_few g decide value sized, before_most P P.active v c ready.node (omega arith))

-- a child without points: its turn is through, and the store is as it was
pub without_points : (P : Plan) (v c b leaves : ℕ) {m m₁ : Memory} {after : List Float} {r : Progress}
    → ChildrenAdvanced P v c (suc c) b leaves m m₁ (progress leaves b None) → (r ≡ progress leaves b None) × (after ≡ m₁.store)
    → ChildrenAdvanced P v c (suc c) b leaves m (memory_of m₁.kinds m₁.numbers m₁.places after m₁.corners) r
without_points P v c b leaves {m} {m₁} {r = r} done none =
    subst (λ l. ChildrenAdvanced P v c (suc c) b leaves m (memory_of m₁.kinds m₁.numbers m₁.places l m₁.corners) r) (sym none.1)
    (subst (ChildrenAdvanced P v c (suc c) b leaves m m₁) (sym none.0) done)

module _ (g : Grid) (decide : BoundingBox → List Float → Verdict) (value : Float → Float → Float → Float) (v c b leaves : ℕ) (m : Memory)
    (box : BoundingBox) (boxed : box ≡ node_box g v) (below : c < cube g.inner) (ready : Ready (plan_with g decide value) v c leaves m)
    (r : ℕ) (cubed : r ≡ cube g.inner) where
  abbrev P : Plan
  P = plan_with g decide value

  -- the kind that is read
  kind_read : get_or m.kinds (v * r + c) 0 ≡ get_or m.kinds (v * cube g.inner + c) 0
  kind_read = ap (λ n. get_or m.kinds (v * n + c) 0) cubed

  -- a child that is not active
  pub skipped : get_or m.kinds (v * r + c) 0 ≡ 0 → ChildrenAdvanced P v c (suc c) b leaves m m (progress leaves b None)
  unfolding plan_with
  skipped none =
      turn_skip P v c b leaves m ready below (sym (turn_active P v c b leaves m ready below) ∙ ap nonzero (sym kind_read ∙ none))

  module _ {octet : List Float} {child : BoundingBox} {verdict : Verdict} (read : octet ≡ octet_values m.corners g.inner c)
      (lies : child ≡ child_box box g.inner c) (judged : verdict ≡ decide child octet)
      (above : get_or m.kinds (v * r + c) 0 ≡ 0 → ⊥) where
    -- the child is active
    is_active : P.active v c ≡ true
    unfolding plan_with
    is_active = sym (turn_active P v c b leaves m ready below) ∙ nonzero_true (get_or m.kinds (v * cube g.inner + c) 0) (λ e. above (kind_read ∙ e))

    -- the child's box
    lies_in : child ≡ child_box (node_box g v) g.inner c
    lies_in = lies ∙ ap (λ n. child_box n g.inner c) boxed

    -- the plan's decision is the verdict
    decided : P.decide v c (reading_in m) ≡ verdict
    unfolding plan_with box_of octet_values
    decided = sym (judged ∙ ap₂ decide lies_in read)

    -- a child that becomes a constant
    pub constant_turn : {k : Kind} {x : Float} → verdict ≡ Constant k x → 0 < kind_number k
        → ChildrenAdvanced P v c (suc c) b leaves m
        (memory_of (set m.kinds (v * r + c) (kind_number k)) (set m.numbers (v * r + c) x) m.places m.store m.corners) (progress leaves b None)
    unfolding plan_with
    constant_turn {k} {x} is kind =
        let turn = turn_constant P v c b leaves m ready below is_active k x kind (decided ∙ is) in
        subst (λ n. ChildrenAdvanced P v c (suc c) b leaves m
        (memory_of (set m.kinds (v * n + c) (kind_number k)) (set m.numbers (v * n + c) x) m.places m.store m.corners) (progress leaves b None)) (sym cubed)
        turn

    -- a leaf more is one of all active children
    pub leaf_inside : (leaves + 1) * cube g.leaf ≤ length m.store
    unfolding plan_with
    leaf_inside =
        let more = before_below P P.active v c ready.node below is_active in
        omega (arith, ready.lent.store, ready.at_most, mul-le-mul_right (cube g.leaf) more, mul-le-mul_right (cube g.leaf) ready.at_most)

    -- a child that becomes a leaf
    pub leaf_turn : {store : List Float} {turn : Progress} → verdict ≡ Leaf → turn ≡ leaf_progress (leaves + 1) b v c 0 (cube g.leaf)
        → store ≡ filled ((leaves + 1 - 1) * cube g.leaf + 0) (min b (cube g.leaf - 0))
        (λ q. at value (leaf_point child g.leaf (q - (leaves + 1 - 1) * cube g.leaf))) m.store
        → ChildrenAdvanced P v c (suc c) b leaves m
        (memory_of (set m.kinds (v * r + c) 2) m.numbers (set m.places (v * r + c) leaves) store m.corners) turn
    unfolding plan_with box_of
    leaf_turn {store} {turn} is goes stored =
        let one : leaves + 1 ≡ suc leaves = add-one leaves in
        let stored' : store ≡ filled_store P v c 0 b (suc leaves) m.store =
        stored
        ∙ ap (λ n. filled ((n - 1) * cube g.leaf + 0) (min b (cube g.leaf - 0))
        (λ q. at value (leaf_point child g.leaf (q - (n - 1) * cube g.leaf))) m.store) one
        ∙ ap (λ x. filled ((suc leaves - 1) * cube g.leaf + 0) (min b (cube g.leaf - 0))
        (λ q. at value (leaf_point x g.leaf (q - (suc leaves - 1) * cube g.leaf))) m.store) lies_in in
        let goes' : turn ≡ leaf_progress (suc leaves) b v c 0 (cube g.leaf) = goes ∙ ap (λ n. leaf_progress n b v c 0 (cube g.leaf)) one in
        let whole = turn_leaf P v c b leaves m ready below is_active (decided ∙ is) in
        subst (λ n. ChildrenAdvanced P v c (suc c) b leaves m
        (memory_of (set m.kinds (v * n + c) 2) m.numbers (set m.places (v * n + c) leaves) store m.corners) turn) (sym cubed)
        (subst (λ l. ChildrenAdvanced P v c (suc c) b leaves m
        (memory_of (set m.kinds (v * cube g.inner + c) 2) m.numbers (set m.places (v * cube g.inner + c) leaves) l m.corners) turn)
        (sym stored')
        (subst (λ t. ChildrenAdvanced P v c (suc c) b leaves m
        (memory_of (set m.kinds (v * cube g.inner + c) 2) m.numbers (set m.places (v * cube g.inner + c) leaves)
        (filled_store P v c 0 b (suc leaves) m.store) m.corners) t) (sym goes') whole))
