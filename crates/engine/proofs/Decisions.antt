-- A child's decision: what it leaves is a turn of the plan's.
use Rattle.std.proofs.Common.{◌≡◌, ℕ, suc, ◌+◌, ◌*◌, ◌-◌, ◌≤◌, ◌<◌, min, Bool, true, false, cond, eqb, List, length, get_or, Float, refl, sym, ap, subst, ◌∙◌, arith, eqb-true}
use Rattle.std.specs.Prelude.{Some, None}
use Rattle.std.proofs.lemmas.Bool.{eqb-false}
use Rattle.std.proofs.lemmas.Option.{same_Some}
use native.Mathlib.Nat.{mul-le-mul_right}
use native.Mathlib.Numerals.{add-one}
use Rattle.engine.proofs.Turns.{children_upto}
use lib.ListN.{set}
use Rattle.lists.specs.Filled.{filled}
use Rattle.geometry.specs.declared.BoundingBox.{BoundingBox}
use Rattle.geometry.specs.Values.{at}
use Rattle.grid.specs.Blocks.{cube}
use Rattle.grid.specs.Boxes.{node_box}
use Rattle.grid.specs.Leaves.{leaf_point}
use Rattle.grid.specs.Inner.Octets.{octet_values}
use Rattle.grid.specs.Pruning.{verdict_of}
use Rattle.grid.specs.Kinds.{kind_number}
use Rattle.grid.specs.declared.Kind.{Kind}
use Rattle.grid.specs.declared.Verdict.{Verdict}
use Rattle.grid.specs.declared.Verdict.TheVariants.{Constant, Leaf}
use Rattle.grid.proofs.Verdicts.{verdict_kind}
use Rattle.schedule.specs.Memory.{Memory}
use Rattle.schedule.specs.Lent.{memory_of}
use Rattle.plans.specs.Plan.{plan_with, decide_by}
use Rattle.engine.specs.declared.Progress.{Progress}
use Rattle.engine.specs.declared.Task.{Task}
use Rattle.engine.specs.declared.Visit.{Visit}
use Rattle.engine.specs.Inner.Progress.{Ready, plan_by, progress, leaf_progress, ChildrenAdvanced}
use Rattle.engine.specs.Inner.Children.{place_of, box_at, verdict_at, judged, if_leaf, decided, leaf_box, Decidable}
use Rattle.engine.proofs.ChildLaws.{place_few, leaves_few, skipped, constant_turn, leaf_inside, leaf_turn}

-- ---- what the code leaves is what is decided

module _ (task : Task) (w : Visit) (m : Memory) {r : ℕ} (cubed : r ≡ cube task.grid.inner)
    (active : get_or m.kinds (w.node * r + w.place) 0 ≡ 0 → ⊥) {child : BoundingBox} {octet : List Float} {verdict : Verdict}
    (lies : child ≡ box_at task w) (read : octet ≡ octet_values m.corners task.grid.inner w.place)
    (known : verdict ≡ verdict_of task.band.min task.band.max child octet) where
  -- the place is that of an active child
  is_active : eqb (get_or m.kinds (place_of task w) 0) 0 ≡ false
  is_active = by (eqb (get_or m.kinds (place_of task w) 0) 0) refl
    where
      by : (b : Bool) → eqb (get_or m.kinds (place_of task w) 0) 0 ≡ b → b ≡ false
      by true e = absurd (active (ap (λ n. get_or m.kinds (w.node * n + w.place) 0) cubed ∙ eqb-true _ _ e))
      by false e = refl

  is_verdict : verdict_at task w m ≡ verdict
  is_verdict = sym (known ∙ ap (λ b. verdict_of task.band.min task.band.max b octet) lies ∙ ap (verdict_of task.band.min task.band.max (box_at task w)) read)

  -- the memory
  left : {x : Verdict} → verdict ≡ x → judged task w m x ≡ decided task w m
  left is = sym (ap (λ b. cond b m (judged task w m (verdict_at task w m))) is_active ∙ ap (judged task w m) (is_verdict ∙ is))

  pub constant_left : {k : Kind} {x : Float} {n : ℕ} → verdict ≡ Constant k x → n ≡ kind_number k
      → memory_of (set m.kinds (w.node * r + w.place) n) (set m.numbers (w.node * r + w.place) x) m.places m.store m.corners ≡ decided task w m
  constant_left {x = x} {n = n} is number =
      ap (λ r. memory_of (set m.kinds (w.node * r + w.place) n) (set m.numbers (w.node * r + w.place) x) m.places m.store m.corners) cubed
      ∙ ap (λ n. memory_of (set m.kinds (place_of task w) n) (set m.numbers (place_of task w) x) m.places m.store m.corners) number
      ∙ left is

  pub leaf_left : {n : ℕ} → verdict ≡ Leaf → n ≡ 2
      → memory_of (set m.kinds (w.node * r + w.place) n) m.numbers (set m.places (w.node * r + w.place) w.leaves) m.store m.corners ≡ decided task w m
  leaf_left {n} is number =
      ap (λ r. memory_of (set m.kinds (w.node * r + w.place) n) m.numbers (set m.places (w.node * r + w.place) w.leaves) m.store m.corners) cubed
      ∙ ap (λ n. memory_of (set m.kinds (place_of task w) n) m.numbers (set m.places (place_of task w) w.leaves) m.store m.corners) number
      ∙ left is

-- ---- what is decided is a turn of the plan's

module _ (task : Task) (value : Float → Float → Float → Float) (w : Visit) (m : Memory)
    (boxed : w.bounds ≡ node_box task.grid w.node) (below : w.place < cube task.grid.inner)
    (ready : Ready (plan_by task value) w.node w.place w.leaves m) where
  -- a child that may be decided
  pub decidable : Decidable task w m
  unfolding plan_with
  decidable =
      let one = mul-le-mul_right (cube task.grid.inner) ready.node in
      let few = place_few task.grid w.node w.place task.sized ready.node below in
      record {
        below = below;
        few = few;
        kinds = omega (arith, one, below, ready.lent.kinds);
        numbers = omega (arith, one, below, ready.lent.numbers);
        places = omega (arith, one, below, ready.lent.places);
        leaves = leaves_few task.grid (decide_by task.band) value w.node w.place w.leaves m task.sized below ready;
        corners = ready.lent.corners;
      }

  -- the kind of an active child is not 0
  active : eqb (get_or m.kinds (place_of task w) 0) 0 ≡ false → get_or m.kinds (place_of task w) 0 ≡ 0 → ⊥
  active e none = eqb-false (get_or m.kinds (place_of task w) 0) 0 e none

  -- no leaf: the turn is through
  pub none_turn : leaf_box task w m ≡ None
      → ChildrenAdvanced (plan_by task value) w.node w.place (w.place + 1) w.left w.leaves m (decided task w m) (progress w.leaves w.left None)
  none_turn none = children_upto (plan_by task value) w.node w.place _ _ w.left w.leaves (sym (add-one w.place)) (by (eqb (get_or m.kinds (place_of task w) 0) 0) refl none)
    where
      on : (x : Verdict) → eqb (get_or m.kinds (place_of task w) 0) 0 ≡ false → verdict_at task w m ≡ x → if_leaf (box_at task w) x ≡ None
          → ChildrenAdvanced (plan_by task value) w.node w.place (suc w.place) w.left w.leaves m (judged task w m x) (progress w.leaves w.left None)
      on (Constant k x) e is none =
          constant_turn task.grid (decide_by task.band) value w.node w.place w.left w.leaves m w.bounds boxed below ready (cube task.grid.inner) refl
          refl refl refl (active e) is (rw (verdict_kind task.band.min task.band.max _ _ is) (omega arith))
      on Leaf e is none = cc

      by : (b : Bool) → eqb (get_or m.kinds (place_of task w) 0) 0 ≡ b → cond b None (if_leaf (box_at task w) (verdict_at task w m)) ≡ None
          → ChildrenAdvanced (plan_by task value) w.node w.place (suc w.place) w.left w.leaves m
          (cond b m (judged task w m (verdict_at task w m))) (progress w.leaves w.left None)
      by true e none =
          skipped task.grid (decide_by task.band) value w.node w.place w.left w.leaves m w.bounds boxed below ready (cube task.grid.inner) refl
          (eqb-true (get_or m.kinds (place_of task w) 0) 0 e)
      by false e none =
          on (verdict_at task w m) e refl none

  -- a leaf: its stretch is inside the store, and the turn is its points
  pub some_inside : {box : BoundingBox} → leaf_box task w m ≡ Some box → (w.leaves + 1) * cube task.grid.leaf ≤ length (decided task w m).store
  some_inside {box} some = by (eqb (get_or m.kinds (place_of task w) 0) 0) refl some
    where
      on : (x : Verdict) → eqb (get_or m.kinds (place_of task w) 0) 0 ≡ false → verdict_at task w m ≡ x → if_leaf (box_at task w) x ≡ Some box
          → (w.leaves + 1) * cube task.grid.leaf ≤ length (judged task w m x).store
      on (Constant k x) e is some = cc
      on Leaf e is some =
          leaf_inside task.grid (decide_by task.band) value w.node w.place w.left w.leaves m w.bounds boxed below ready (cube task.grid.inner) refl
          refl refl refl (active e)

      by : (b : Bool) → eqb (get_or m.kinds (place_of task w) 0) 0 ≡ b → cond b None (if_leaf (box_at task w) (verdict_at task w m)) ≡ Some box
          → (w.leaves + 1) * cube task.grid.leaf ≤ length (cond b m (judged task w m (verdict_at task w m))).store
      by true e some = cc
      by false e some = on (verdict_at task w m) e refl some

  module _ {box : BoundingBox} (store : List Float) {turn : Progress} (some : leaf_box task w m ≡ Some box)
      (goes : turn ≡ leaf_progress (w.leaves + 1) w.left w.node w.place 0 (cube task.grid.leaf)) where
    abbrev pub Stored : Memory → Type 0
    Stored d = store ≡ filled ((w.leaves + 1 - 1) * cube task.grid.leaf + 0) (min w.left (cube task.grid.leaf - 0))
        (λ q. at value (leaf_point box task.grid.leaf (q - (w.leaves + 1 - 1) * cube task.grid.leaf))) d.store

    abbrev pub Turned : ℕ → Memory → Type 0
    Turned next d = ChildrenAdvanced (plan_by task value) w.node w.place next w.left w.leaves m (memory_of d.kinds d.numbers d.places store d.corners) turn

    pub some_turn : {d : Memory} → d ≡ decided task w m → Stored d → Turned (w.place + 1) d
    some_turn after = subst (λ d. Stored d → Turned (w.place + 1) d) (sym after) (by (eqb (get_or m.kinds (place_of task w) 0) 0) refl some)
      where
        on : (x : Verdict) → eqb (get_or m.kinds (place_of task w) 0) 0 ≡ false → verdict_at task w m ≡ x → if_leaf (box_at task w) x ≡ Some box
            → Stored (judged task w m x) → Turned (w.place + 1) (judged task w m x)
        on (Constant k x) e is some kept = cc
        on Leaf e is some kept =
            let same : box_at task w ≡ box = same_Some (box_at task w) box some in
            children_upto (plan_by task value) w.node w.place _ _ w.left w.leaves (sym (add-one w.place))
            (leaf_turn task.grid (decide_by task.band) value w.node w.place w.left w.leaves m w.bounds boxed below ready (cube task.grid.inner) refl
            refl (sym same) (sym is ∙ ap (λ b. verdict_of task.band.min task.band.max b (octet_values m.corners task.grid.inner w.place)) same)
            (active e) refl goes kept)

        by : (b : Bool) → eqb (get_or m.kinds (place_of task w) 0) 0 ≡ b → cond b None (if_leaf (box_at task w) (verdict_at task w m)) ≡ Some box
            → Stored (cond b m (judged task w m (verdict_at task w m))) → Turned (w.place + 1) (cond b m (judged task w m (verdict_at task w m)))
        by true e some kept = cc
        by false e some kept = on (verdict_at task w m) e refl some kept
