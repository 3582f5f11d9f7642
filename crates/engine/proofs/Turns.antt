-- What one turn of the engine comes to: a child that is passed over, a constant, a leaf and its points, the end of a node.
use Prim.Native.Nat.{ℕ, suc, ◌+◌, ◌*◌, ◌-◌, ◌≤◌, ◌<◌, min}
use mathlib.Core.Path.{◌≡◌, refl, sym, ap, subst, ◌∙◌}
use mathlib.Core.Bool.{Bool, true, false, cond}
use mathlib.Core.List.{List, ◌∷◌}
use native.Mathlib.Nat.{mul-le-mul_right}
use native.Mathlib.Omega.{arith}
use lib.ListN.{set, get_or, length, replicate, length-set, length-replicate}
use lib.Dec.{ltb}
use lib.Ieee.{Float}
use borrow.Author.Tests.{ltb-true, ltb-false}
use Rattle.float.specs.Zero.{plus_zero}
use Rattle.lists.specs.Filled.{filled}
use Rattle.lists.proofs.Filling.{filled_length}
use Rattle.schedule.specs.Schedule.{Site, Event, point, evaluate, make_constant, make_leaf, clear_corners}
use Rattle.grid.specs.declared.Kind.{Kind}
use Rattle.grid.specs.Kinds.{kind_number}
use Rattle.schedule.specs.Plan.{Plan}
use Rattle.grid.specs.declared.Verdict.TheVariants.{Constant, Leaf}
use Rattle.schedule.specs.Resume.{at_site, events_from, children_left, nodes_left}
use Rattle.schedule.specs.Memory.{Memory, State, apply}
use Rattle.schedule.specs.Totals.{active_before}
use Rattle.lists.specs.Sums.{bit}
use Rattle.lists.specs.Flags.{nonzero}
use Rattle.schedule.proofs.Sums.{before_next, before_node}
use Rattle.schedule.proofs.Next.{child_skip, child_constant, child_leaf, child_last, point_evaluate, point_last}
use Rattle.schedule.proofs.Activity.{active_at_lem, set_active}
use Rattle.schedule.proofs.StopFacts.{get_or_equal}
use Rattle.engine.specs.declared.Progress.{Progress}
use Rattle.schedule.specs.declared.Cursor.{Cursor}
use Rattle.schedule.specs.declared.Cursor.TheVariants.{Point}
use Rattle.std.specs.Prelude.{Option, Some, None, is_some}
use Rattle.schedule.specs.declared.slices.Slices.{Slices}
use Rattle.schedule.specs.Lent.{memory_of, SameSlices}
use Rattle.engine.specs.Inner.Runs.{run_of}
use Rattle.engine.specs.Inner.Progress.{Lent, after_stop, IfThrough, progress, state_in, reading_in, leaf_progress}
use Rattle.engine.specs.Inner.Progress.{Advanced, Ready, ChildrenAdvanced, NodeAdvanced}
use Rattle.engine.proofs.RunLaws.{run_work, run_stop, run_points}

-- a fact holds where a function has come through, if it holds at all
pub if_through : {A : Type 0} (x : Option Cursor) → A → IfThrough x A
if_through None a = a
if_through (Some c) a = tt

-- where it has come through, what is claimed holds
pub came_through : (A : Type 0) {x : Option Cursor} → IfThrough x A → x ≡ None → A
came_through A claim through = subst (λ x. IfThrough x A) through claim

-- slices that stay the same stay the same through two calls
pub same_then : {a b c : Slices} → SameSlices a b → SameSlices b c → SameSlices a c
same_then first then = record {
  kinds = then.kinds ∙ first.kinds;
  numbers = then.numbers ∙ first.numbers;
  places = then.places ∙ first.places;
  store = then.store ∙ first.store;
  corners = then.corners ∙ first.corners;
}

-- a stop that is none
pub none_stop : {x : Option Cursor} → is_some x ≡ false → x ≡ None
none_stop {x = None} none = refl
none_stop {x = Some a} none = cc

module _ (P : Plan) where
  -- one function after another that has come through
  pub advanced_then : {b leaves : ℕ} {m m₁ m₂ : Memory} {from mid to : List Event} {r₁ r₂ : Progress} {most₁ most₂ : ℕ}
      → Advanced P b leaves m m₁ from mid r₁ most₁ → r₁.stop ≡ None → Advanced P r₁.left r₁.leaves m₁ m₂ mid to r₂ most₂
      → Advanced P b leaves m m₂ from to r₂ most₂
  advanced_then {m₁ = m₁} {mid = mid} {r₁ = r₁} first through then = record {
    same = first.same ∙ ap (λ x. after_stop P (state_in m₁ r₁.leaves) r₁.left x mid) through ∙ then.same;
    lent = then.lent;
    at_most = then.at_most;
  }

  -- one that has come through, by its parts
  pub advanced_through : {b leaves : ℕ} {m m₁ : Memory} {from to : List Event} {r : Progress} {most : ℕ}
      → Advanced P b leaves m m₁ from to r most → r.stop ≡ None → Advanced P b leaves m m₁ from to (progress r.leaves r.left None) most
  advanced_through {b} {leaves} {m} {m₁} {from} {to} {r} {most} first through =
      subst (λ x. Advanced P b leaves m m₁ from to (progress r.leaves r.left x) most) through first

  -- before a function has begun
  pub advanced_start : (b leaves : ℕ) (m : Memory) (es : List Event) (most : ℕ) → Lent P m → leaves ≤ most
      → Advanced P b leaves m m es es (progress leaves b None) most
  advanced_start b leaves m es most lent below = record { same = refl; lent = lent; at_most = below }

  -- a function that has stopped leaves nothing to the next
  pub advanced_stopped : {b leaves : ℕ} {m m₁ : Memory} {from mid to : List Event} {r : Progress} {most most₂ : ℕ} (a : Cursor)
      → Advanced P b leaves m m₁ from mid r most → r.stop ≡ Some a → Advanced P b leaves m m₁ from to r most₂
  advanced_stopped {m₁ = m₁} {mid = mid} {to = to} {r = r} {most₂ = most₂} a first stopped = record {
    same = first.same ∙ ap (λ x. after_stop P (state_in m₁ r.leaves) r.left x mid) stopped
        ∙ sym (ap (λ x. after_stop P (state_in m₁ r.leaves) r.left x to) stopped);
    lent = first.lent;
    at_most = subst (λ x. IfThrough x (r.leaves ≤ most₂)) (sym stopped) tt;
  }

  -- the children up to a number that is the same
  pub children_upto : (v c c₁ c₂ b leaves : ℕ) {m m₁ : Memory} {r : Progress} → c₁ ≡ c₂
      → ChildrenAdvanced P v c c₁ b leaves m m₁ r → ChildrenAdvanced P v c c₂ b leaves m m₁ r
  children_upto v c c₁ c₂ b leaves {m} {m₁} {r} same = subst (λ n. ChildrenAdvanced P v c n b leaves m m₁ r) same

  -- a child's place is one of the kinds
  place_inside : (v c n : ℕ) → v < P.nodes → c < P.children → P.nodes * P.children ≤ n → v * P.children + c < n
  place_inside v c n hv hc long = omega (arith, mul-le-mul_right P.children hv)

  module _ (v c b leaves : ℕ) (m : Memory) (ready : Ready P v c leaves m) (below : c < P.children) where
    -- a child's kind is nonzero exactly where it is active
    pub turn_active : nonzero (get_or m.kinds (v * P.children + c) 0) ≡ P.active v c
    turn_active =
        ready.lent.active_kinds (v * P.children + c) (place_inside v c (length m.kinds) ready.node below ready.lent.kinds)
        ∙ active_at_lem P v c ready.node below

    -- a child that is not active
    pub turn_skip : P.active v c ≡ false → ChildrenAdvanced P v c (suc c) b leaves m m (progress leaves b None)
    turn_skip none = record {
      same = ap (λ es. run_of P b es (state_in m leaves)) (child_skip P v c below none (reading_in m));
      lent = ready.lent;
      at_most = omega (arith, ready.at_most, before_next P P.active v c);
    }

    -- a child that becomes a constant
    pub turn_constant : P.active v c ≡ true → (k : Kind) (x : Float) → 0 < kind_number k → P.decide v c (reading_in m) ≡ Constant k x
        → ChildrenAdvanced P v c (suc c) b leaves m
        (memory_of (set m.kinds (v * P.children + c) (kind_number k)) (set m.numbers (v * P.children + c) x) m.places m.store m.corners)
        (progress leaves b None)
    unfolding apply
    turn_constant active k x above decided = record {
      same = ap (λ es. run_of P b es (state_in m leaves)) (child_constant P v c below active (reading_in m) k x decided)
          ∙ run_work P b (make_constant (v * P.children + c) (kind_number k) x) (children_left P v (suc c) (reading_in m)) (state_in m leaves);
      lent = record {
        kinds = rw length-set ready.lent.kinds;
        numbers = rw length-set ready.lent.numbers;
        places = ready.lent.places;
        store = ready.lent.store;
        corners = ready.lent.corners;
        active_kinds = set_active P m.kinds (v * P.children + c) (kind_number k) (active_at_lem P v c ready.node below ∙ active) above ready.lent.active_kinds;
      };
      at_most = omega (arith, ready.at_most, before_next P P.active v c);
    }

  -- the store after points of the last of n leaves
  abbrev pub filled_store : (v c p b n : ℕ) → List Float → List Float
  filled_store v c p b n store =
      filled ((n - 1) * P.leaf_points + p) (min b (P.leaf_points - p)) (λ q. P.point_value v c (q - (n - 1) * P.leaf_points)) store

  -- the state after them
  abbrev pub leaf_state : (v c p b n : ℕ) → Memory → State
  leaf_state v c p b n m = state_in (memory_of m.kinds m.numbers m.places (filled_store v c p b n m.store) m.corners) n

  -- a stop before an evaluation, at which no budget is left
  pub stopped : (k : ℕ) → k ≡ 0 → (t : Site) (x : Float) (es : List Event) (s : State)
      → run_of P k (evaluate t x ∷ es) s ≡ record { state = s; cursor = at_site t; left = k }
  stopped k none t x es s =
      ap (λ k. run_of P k (evaluate t x ∷ es) s) none
      ∙ run_stop P t x es s
      ∙ ap (λ k. record { state = s; cursor = at_site t; left = k }) (sym none)

  -- a leaf's points from p on, while the budget lasts
  pub leaf_run : (v c p b n : ℕ) (m : Memory) → p ≤ P.leaf_points
      → run_of P b (events_from P (Point v c p) (reading_in m)) (state_in m n)
      ≡ after_stop P (leaf_state v c p b n m)
      (leaf_progress n b v c p P.leaf_points).left (leaf_progress n b v c p P.leaf_points).stop (children_left P v (suc c) (reading_in m))
  unfolding leaf_progress
  leaf_run v c p b n m within =
      run_points P v c (reading_in m) (min b (P.leaf_points - p)) p b (state_in m n) m.store (omega arith) (omega arith)
      ∙ one (ltb (p + min b (P.leaf_points - p)) P.leaf_points) refl
    where
      one : (x : Bool) → ltb (p + min b (P.leaf_points - p)) P.leaf_points ≡ x
          → run_of P (b - min b (P.leaf_points - p)) (events_from P (Point v c (p + min b (P.leaf_points - p))) (reading_in m)) (leaf_state v c p b n m)
          ≡ after_stop P (leaf_state v c p b n m)
          (b - min b (P.leaf_points - p)) (cond x (Some (Point v c (p + min b (P.leaf_points - p)))) None) (children_left P v (suc c) (reading_in m))
      one true e =
          let next : ℕ = p + min b (P.leaf_points - p) in
          let short : next < P.leaf_points = ltb-true next P.leaf_points e in
          ap (λ es. run_of P (b - min b (P.leaf_points - p)) es (leaf_state v c p b n m)) (point_evaluate P v c next short (reading_in m))
          ∙ stopped (b - min b (P.leaf_points - p)) (omega arith) (point v c next) (P.point_value v c next) _ (leaf_state v c p b n m)
      one false e =
          let next : ℕ = p + min b (P.leaf_points - p) in
          ap (λ es. run_of P (b - min b (P.leaf_points - p)) es (leaf_state v c p b n m))
          (point_last P v c next (ltb-false next P.leaf_points e) (reading_in m))

  -- a leaf is one of the leaves
  leaf_progress_leaves : (n b v c p points : ℕ) → (leaf_progress n b v c p points).leaves ≡ n
  unfolding leaf_progress
  leaf_progress_leaves n b v c p points = refl

  -- memory whose store holds points of a leaf is lent as before
  pub leaf_lent : (v c p b n : ℕ) (m : Memory) → Lent P m → Lent P (leaf_state v c p b n m).memory
  leaf_lent v c p b n m lent = record {
    kinds = lent.kinds;
    numbers = lent.numbers;
    places = lent.places;
    store = rw filled_length lent.store;
    corners = lent.corners;
    active_kinds = lent.active_kinds;
  }

  -- points of the last leaf, that of child c
  pub turn_points : (v c p b n : ℕ) (m : Memory) → Lent P m → n ≤ active_before P v (suc c) → p ≤ P.leaf_points
      → Advanced P b n m (leaf_state v c p b n m).memory (events_from P (Point v c p) (reading_in m)) (children_left P v (suc c) (reading_in m))
      (leaf_progress n b v c p P.leaf_points) (active_before P v (suc c))
  turn_points v c p b n m lent most within = record {
    same = leaf_run v c p b n m within
        ∙ ap (λ n'. after_stop P (state_in (leaf_state v c p b n m).memory n') (leaf_progress n b v c p P.leaf_points).left
        (leaf_progress n b v c p P.leaf_points).stop (children_left P v (suc c) (reading_in m)))
        (sym (leaf_progress_leaves n b v c p P.leaf_points));
    lent = leaf_lent v c p b n m lent;
    at_most = if_through (leaf_progress n b v c p P.leaf_points).stop
        (subst (λ k. k ≤ active_before P v (suc c)) (sym (leaf_progress_leaves n b v c p P.leaf_points)) most);
  }

  module _ (v c b leaves : ℕ) (m : Memory) (ready : Ready P v c leaves m) (below : c < P.children) where
    -- the memory after a child has become a leaf, before its points
    abbrev pub leaf_made : Memory
    leaf_made = memory_of (set m.kinds (v * P.children + c) 2) m.numbers (set m.places (v * P.children + c) leaves) m.store m.corners

    -- a child that becomes a leaf, with its points
    pub turn_leaf : P.active v c ≡ true → P.decide v c (reading_in m) ≡ Leaf
        → ChildrenAdvanced P v c (suc c) b leaves m (leaf_state v c 0 b (suc leaves) leaf_made).memory (leaf_progress (suc leaves) b v c 0 P.leaf_points)
    unfolding apply
    turn_leaf active decided =
        let one : bit (P.active v c) ≡ 1 = ap bit active in
        let made : Lent P leaf_made = record {
          kinds = rw length-set ready.lent.kinds;
          numbers = ready.lent.numbers;
          places = rw length-set ready.lent.places;
          store = ready.lent.store;
          corners = ready.lent.corners;
          active_kinds = set_active P m.kinds (v * P.children + c) 2 (active_at_lem P v c ready.node below ∙ active) (omega arith) ready.lent.active_kinds;
        } in
        let points = turn_points v c 0 b (suc leaves) leaf_made made (omega (arith, ready.at_most, before_next P P.active v c)) (omega arith) in
        record {
          same = ap (λ es. run_of P b es (state_in m leaves)) (child_leaf P v c below active (reading_in m) decided)
              ∙ run_work P b (make_leaf (v * P.children + c)) (events_from P (Point v c 0) (reading_in m)) (state_in m leaves)
              ∙ points.same;
          lent = points.lent;
          at_most = points.at_most;
        }

  -- past its last child a node's corners are cleared
  pub turn_clear : (v b leaves c : ℕ) (m m₁ : Memory) (r : Progress) {cleared : List Float}
      → ChildrenAdvanced P v c P.children b leaves m m₁ r → r.stop ≡ None → cleared ≡ replicate (length m₁.corners) plus_zero
      → NodeAdvanced P v b leaves m (memory_of m₁.kinds m₁.numbers m₁.places m₁.store cleared) (children_left P v c (reading_in m)) r
  unfolding apply
  turn_clear v b leaves c m m₁ r {cleared} children through zeroed =
      subst (λ l. NodeAdvanced P v b leaves m (memory_of m₁.kinds m₁.numbers m₁.places m₁.store l) (children_left P v c (reading_in m)) r)
      (sym zeroed) (record {
        advanced = record {
          same = children.same
              ∙ ap (λ x. after_stop P (state_in m₁ r.leaves) r.left x (children_left P v P.children (reading_in m))) through
              ∙ ap (λ es. run_of P r.left es (state_in m₁ r.leaves)) (child_last P v P.children (omega arith) (reading_in m))
              ∙ run_work P r.left clear_corners (nodes_left P (suc v)) (state_in m₁ r.leaves)
              ∙ sym (ap (λ x. after_stop P
              (state_in (memory_of m₁.kinds m₁.numbers m₁.places m₁.store (replicate (length m₁.corners) plus_zero)) r.leaves) r.left x
              (nodes_left P (suc v))) through);
          lent = record {
            kinds = children.lent.kinds;
            numbers = children.lent.numbers;
            places = children.lent.places;
            store = children.lent.store;
            corners = rw length-replicate children.lent.corners;
            active_kinds = children.lent.active_kinds;
          };
          at_most = subst (λ k. IfThrough r.stop (r.leaves ≤ k)) (sym (before_node P P.active v)) children.at_most;
        };
        cleared = if_through r.stop (λ i. get_or_equal plus_zero (length m₁.corners) i);
      })
