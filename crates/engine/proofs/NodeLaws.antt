-- A node's turn: its corners, evaluated while the budget lasts, and what follows them.
use Prim.Native.Nat.{ℕ, zero, suc, ◌+◌, ◌*◌, ◌-◌, ◌≤◌, ◌<◌, min}
use mathlib.Core.Path.{◌≡◌, refl, sym, ap, ap₂, subst, fun_ext, ◌∙◌}
use mathlib.Core.Bool.{Bool, true, false, cond}
use mathlib.Core.Logic.{⊎_elim}
use mathlib.Core.List.{List, []}
use native.Mathlib.Nat.{mul-le-mul_left, mul-le-mul_right}
use native.Mathlib.Numerals.{add-one}
use native.Mathlib.Omega.{arith}
use lib.ListN.{set, get_or, length, take, drop, length-set, length-drop}
use lib.Seq.{length-take-le, get_or-set_other}
use lib.Ieee.{Float}
use Rattle.float.specs.Zero.{plus_zero}
use Rattle.geometry.specs.declared.BoundingBox.{BoundingBox}
use Rattle.grid.specs.declared.Grid.{Grid}
use Rattle.grid.specs.declared.Verdict.{Verdict}
use Rattle.grid.specs.Blocks.{cube}
use Rattle.grid.specs.Nodes.{nodes_of}
use Rattle.grid.specs.Boxes.{node_box, child_box}
use Rattle.grid.specs.Leaves.{leaf_point}
use Rattle.grid.specs.Corners as corners
use Rattle.grid.specs.CornerList as kinds
use Rattle.grid.proofs.BlockLaws.{cube_le}
use Rattle.lists.specs.Filled.{filled}
use Rattle.schedule.specs.Schedule.{Event, corner}
use Rattle.schedule.specs.Plan.{Plan}
use Rattle.schedule.specs.Resume.{events_from, children_left, nodes_left}
use Rattle.schedule.specs.Memory.{Memory}
use Rattle.schedule.specs.Totals.{active_before, active_all}
use Rattle.schedule.specs.PlanLaws.{PlanLaws}
use Rattle.schedule.specs.Opened.{ActiveKinds}
use Rattle.schedule.proofs.Sums.{before_all, before_most}
use Rattle.schedule.proofs.Next.{corner_evaluate, corner_last, node_first, node_last}
use Rattle.engine.specs.declared.Progress.{Progress}
use Rattle.schedule.specs.declared.Cursor.{Cursor}
use Rattle.schedule.specs.declared.Cursor.TheVariants.{End, Corner, Point}
use Rattle.std.specs.Prelude.{Some, None}
use Rattle.schedule.specs.Lent.{memory_of}
use Rattle.rows.specs.Inner.CornerRun.{CornerRun, needed_from, evaluated_from}
use Rattle.geometry.specs.Values as values
use Rattle.plans.specs.Plan.{plan_with, box_of}
use Rattle.engine.specs.Inner.Runs.{run_of}
use Rattle.engine.specs.Inner.Sizes.{Sized}
use Rattle.engine.specs.Inner.Progress.{Lent, progress, state_in, after_stop, IfThrough, Advanced, Ready, reading_in, ZeroCorners, NodeAdvanced, leaf_progress}
use Rattle.engine.specs.declared.Standing.{Standing}
use Rattle.engine.specs.Inner.Startable.{Startable}
use Rattle.engine.specs.Inner.Turns.{Standable, NodesReady, Continued, SameBehind}
use Rattle.plans.proofs.NodeKinds.{part_needed}
use Rattle.engine.proofs.RunLaws.{run_corners}
use Rattle.engine.proofs.Turns.{stopped, advanced_start, filled_store, turn_points}

-- ---- the kinds of one node

module _ (g : Grid) (decide : BoundingBox → List Float → Verdict) (value : Float → Float → Float → Float) (l : List ℕ)
    (right : ActiveKinds (plan_with g decide value) l) (long : nodes_of g * cube g.inner ≤ length l) (v : ℕ) (below : v < nodes_of g) {first d : ℕ}
    (from : first ≡ v * cube g.inner) (size : d ≡ cube g.inner) where
  abbrev R : Plan
  R = plan_with g decide value

  -- the run over the corners that one node's part needs is the plan's
  pub plan_corners : {box : BoundingBox} {i b next left : ℕ} {before after : List Float} → box ≡ node_box g v
      → CornerRun (corners.needed g.inner (kinds.nonzero_at (take d (drop first l)))) (λ i. values.at value (corners.corner_point box g.inner i))
      (cube (g.inner + 1)) i b next left before after
      → CornerRun (R.needed v) (R.corner_value v) R.corners i b next left before after
  unfolding plan_with
  plan_corners {box} {i} {b} {next} {left} {before} {after} boxed run =
      subst (λ test. CornerRun test (R.corner_value v) (cube (g.inner + 1)) i b next left before after)
      (fun_ext (part_needed g decide value l right long v below from size))
      (subst (λ x. CornerRun (corners.needed g.inner (kinds.nonzero_at (take d (drop first l)))) (λ i. values.at value (corners.corner_point x g.inner i))
      (cube (g.inner + 1)) i b next left before after) boxed run)

-- ---- a run over a node's corners

evaluated_length : (test : ℕ → Bool) (value : ℕ → Float) (r i : ℕ) (l : List Float) → length (evaluated_from test value r i l) ≡ length l
unfolding evaluated_from
evaluated_length test value zero i l = refl
evaluated_length test value (suc r) i l = evaluated_length test value r (suc i) _ ∙ one (test i)
  where
    one : (b : Bool) → length (cond b (set l i (value i)) l) ≡ length l
    one true = length-set l i (value i)
    one false = refl

-- corners past those that a run goes over are as they were
evaluated_past : (test : ℕ → Bool) (value : ℕ → Float) (r i : ℕ) (l : List Float) (j : ℕ) → i + r ≤ j
    → get_or (evaluated_from test value r i l) j plus_zero ≡ get_or l j plus_zero
unfolding evaluated_from
evaluated_past test value zero i l j behind = refl
evaluated_past test value (suc r) i l j behind = evaluated_past test value r (suc i) _ j (omega arith) ∙ one (test i)
  where
    one : (b : Bool) → get_or (cond b (set l i (value i)) l) j plus_zero ≡ get_or l j plus_zero
    one true = get_or-set_other l i j (value i) plus_zero (λ (same : j ≡ i). omega arith)
    one false = refl

run_past : {test : ℕ → Bool} {value : ℕ → Float} {total i b next left : ℕ} {before after : List Float}
    → CornerRun test value total i b next left before after → (j : ℕ) → total ≤ j → get_or after j plus_zero ≡ get_or before j plus_zero
run_past {test} {value} {total} {i} {b} {next} {left} {before} run j behind =
    ap (λ l. get_or l j plus_zero) run.written
    ∙ evaluated_past test value (next - i) i before j (omega (arith, run.from, run.within))

run_long : {test : ℕ → Bool} {value : ℕ → Float} {total i b next left : ℕ} {before after : List Float}
    → CornerRun test value total i b next left before after → length after ≡ length before
run_long {test} {value} {i = i} {next = next} {before = before} run = ap length run.written ∙ evaluated_length test value (next - i) i before

module _ (P : Plan) (v i b leaves next left : ℕ) (m : Memory) (after : List Float) (lent : Lent P m)
    (run : CornerRun (P.needed v) (P.corner_value v) P.corners i b next left m.corners after) where
  -- the memory after the run
  abbrev pub cornered : Memory
  cornered = memory_of m.kinds m.numbers m.places m.store after

  pub cornered_lent : Lent P cornered
  cornered_lent = record {
    kinds = lent.kinds;
    numbers = lent.numbers;
    places = lent.places;
    store = lent.store;
    corners = omega (arith, lent.corners, ap length run.written, evaluated_length (P.needed v) (P.corner_value v) (next - i) i m.corners);
    active_kinds = lent.active_kinds;
  }

  -- what is left from the next corner on
  corners_run_lem : run_of P b (events_from P (Corner v i) (reading_in m)) (state_in m leaves)
      ≡ run_of P left (events_from P (Corner v next) (reading_in cornered)) (state_in cornered leaves)
  corners_run_lem =
      let r : ℕ = next - i in
      let place : i + r ≡ next = omega (arith, run.from) in
      let rest : b - needed_from (P.needed v) r i ≡ left = omega (arith, run.spent) in
      run_corners P v r i b (state_in m leaves) m.corners (omega (arith, run.from, run.within)) lent.corners (omega (arith, run.spent))
      ∙ ap₂ (λ k n. run_of P k (events_from P (Corner v n) (λ j. get_or (evaluated_from (P.needed v) (P.corner_value v) r i m.corners) j plus_zero))
      (state_in (memory_of m.kinds m.numbers m.places m.store (evaluated_from (P.needed v) (P.corner_value v) r i m.corners)) leaves)) rest place
      ∙ ap (λ l. run_of P left (events_from P (Corner v next) (λ j. get_or l j plus_zero))
      (state_in (memory_of m.kinds m.numbers m.places m.store l) leaves)) (sym run.written)

  -- it stops before a corner
  pub corners_stopped : {to : List Event} {most : ℕ} → next < P.corners
      → Advanced P b leaves m cornered (events_from P (Corner v i) (reading_in m)) to (progress leaves left (Some (Corner v next))) most
  corners_stopped short =
      let stop : (left ≡ 0) × (P.needed v next ≡ true) = ⊎_elim (λ (e : next ≡ P.corners). absurd (omega arith)) (λ p. p) run.stops in
      record {
        same = corners_run_lem
            ∙ ap (λ es. run_of P left es (state_in cornered leaves))
            (corner_evaluate P v next short stop.1 (state_in cornered leaves) (omega (arith, cornered_lent.corners)))
            ∙ stopped P left stop.0 (corner v next) (P.corner_value v next) _ (state_in cornered leaves);
        lent = cornered_lent;
        at_most = tt;
      }

  -- it comes to the children
  pub corners_through : PlanLaws P → v < P.nodes → P.corners ≤ next → leaves ≤ active_before P v 0
      → Advanced P b leaves m cornered (events_from P (Corner v i) (reading_in m)) (children_left P v 0 (reading_in cornered)) (progress leaves left None)
      (active_before P v 0)
  corners_through laws node last most = record {
    same = corners_run_lem ∙ ap (λ es. run_of P left es (state_in cornered leaves)) (corner_last P v laws node next last (reading_in cornered));
    lent = cornered_lent;
    at_most = most;
  }

-- ---- one node after another

-- a node begins with corners that are all +0
pub node_begins : (P : Plan) (v : ℕ) (m : Memory) → v < P.nodes → ZeroCorners m → nodes_left P v ≡ events_from P (Corner v 0) (reading_in m)
node_begins P v m below cleared = node_first P v below ∙ ap (events_from P (Corner v 0)) (sym (fun_ext cleared))

-- a node that is done lets the next one begin, if there is one
pub node_ready : (P : Plan) (v b leaves : ℕ) {m m₁ : Memory} {from : List Event} {r : Progress} → NodeAdvanced P v b leaves m m₁ from r
    → NodesReady P (suc v) r m₁
node_ready P v b leaves node = record { lent = node.advanced.lent; at_most = node.advanced.at_most; cleared = node.cleared }

-- work that has gone so far, before it goes on
pub continued_start : (P : Plan) (r : Progress) (m : Memory) (es : List Event) (most : ℕ) → Lent P m → IfThrough r.stop (r.leaves ≤ most)
    → Continued P r m m es es r most
continued_start P r m es most lent below = record { same = refl; lent = lent; at_most = below }

-- work that has gone on to a node, and then through it
pub continued_node : (P : Plan) (v : ℕ) {r₀ r r₁ : Progress} {m m₁ m₂ : Memory} {from : List Event} {most : ℕ}
    → Continued P r₀ m m₁ from (nodes_left P v) r most → r.stop ≡ None → v < P.nodes → ZeroCorners m₁
    → NodeAdvanced P v r.left r.leaves m₁ m₂ (events_from P (Corner v 0) (reading_in m₁)) r₁
    → Continued P r₀ m m₂ from (nodes_left P (suc v)) r₁ (active_before P (suc v) 0)
continued_node P v {r = r} {m₁ = m₁} so through below cleared node = record {
  same = so.same
      ∙ ap (λ x. after_stop P (state_in m₁ r.leaves) r.left x (nodes_left P v)) through
      ∙ ap (λ es. run_of P r.left es (state_in m₁ r.leaves)) (node_begins P v m₁ below cleared)
      ∙ node.advanced.same;
  lent = node.advanced.lent;
  at_most = node.advanced.at_most;
}

-- work that has stopped leaves nothing to the next
pub continued_stopped : (P : Plan) {r₀ r : Progress} {m m₁ : Memory} {from mid to : List Event} {most most₂ : ℕ} (a : Cursor)
    → Continued P r₀ m m₁ from mid r most → r.stop ≡ Some a → Continued P r₀ m m₁ from to r most₂
continued_stopped P {r = r} {m₁ = m₁} {mid = mid} {to = to} {most₂ = most₂} a so stopped = record {
  same = so.same ∙ ap (λ x. after_stop P (state_in m₁ r.leaves) r.left x mid) stopped
      ∙ sym (ap (λ x. after_stop P (state_in m₁ r.leaves) r.left x to) stopped);
  lent = so.lent;
  at_most = subst (λ x. IfThrough x (r.leaves ≤ most₂)) (sym stopped) tt;
}

-- after the last node nothing is left
pub continued_end : (P : Plan) (v : ℕ) {r₀ r : Progress} {m m₁ : Memory} {from : List Event} → v ≡ P.nodes
    → Continued P r₀ m m₁ from (nodes_left P v) r (active_before P v 0) → Continued P r₀ m m₁ from [] r (active_all P)
continued_end P v {r₀} {r} {m} {m₁} {from} last so =
    subst (λ n. Continued P r₀ m m₁ from [] r n) (ap (λ u. active_before P u 0) last ∙ before_all P P.active)
    (subst (λ es. Continued P r₀ m m₁ from es r (active_before P v 0)) (node_last P v (omega arith)) so)

-- a node, and what follows it
pub node_then : (P : Plan) (v b leaves : ℕ) {m m₁ m₂ : Memory} {from to : List Event} {r r₁ : Progress} {most : ℕ}
    → NodeAdvanced P v b leaves m m₁ from r → Continued P r m₁ m₂ (nodes_left P (suc v)) to r₁ most → Advanced P b leaves m m₂ from to r₁ most
node_then P v b leaves node so = record { same = node.advanced.same ∙ so.same; lent = so.lent; at_most = so.at_most }

-- ---- the same, from what the code reads

-- there are few nodes
pub nodes_few : (g : Grid) → Sized g → nodes_of g ≤ 16777216
nodes_few g sized =
    let one : 1 ≤ cube g.inner = cube_le g.inner 1 sized.inner_least in
    omega (arith, sized.children, mul-le-mul_left (nodes_of g) one)

-- a node's kinds are inside the slice
pub node_few : (g : Grid) (v : ℕ) → Sized g → v < nodes_of g → v * cube g.inner + cube g.inner ≤ nodes_of g * cube g.inner
node_few g v sized below = omega (arith, mul-le-mul_right (cube g.inner) below)

-- the same by a number that is read
module _ (g : Grid) (v : ℕ) (sized : Sized g) (below : v < nodes_of g) {r : ℕ} (cubed : r ≡ cube g.inner) where
  pub part_few : v * r + r ≤ 16777216
  part_few = omega (arith, ap (λ n. v * n) cubed, cubed, sized.children, node_few g v sized below)

  pub part_inside : (l : List ℕ) → nodes_of g * cube g.inner ≤ length l → v * r + r ≤ length l
  part_inside l long = omega (arith, ap (λ n. v * n) cubed, cubed, long, node_few g v sized below)

-- a part of a list
pub part_long : (l : List ℕ) (first n : ℕ) → first + n ≤ length l → length (take (first + n - first) (drop first l)) ≡ n
part_long l first n fits =
    let size : first + n - first ≡ n = omega arith in
    length-take-le (first + n - first) (drop first l) (omega (arith, length-drop first l)) ∙ size

module _ (g : Grid) (decide : BoundingBox → List Float → Verdict) (value : Float → Float → Float → Float) (v i b leaves : ℕ) (m : Memory)
    (ready : Ready (plan_with g decide value) v 0 leaves m) (n : ℕ) (cubed : n ≡ cube g.inner)
    {box : BoundingBox} {next left : ℕ} {after : List Float} (boxed : box ≡ node_box g v)
    (run : CornerRun (corners.needed g.inner (kinds.nonzero_at (take (v * n + n - v * n) (drop (v * n) m.kinds))))
    (λ i. values.at value (corners.corner_point box g.inner i)) (cube (g.inner + 1)) i b next left m.corners after) where
  abbrev P : Plan
  P = plan_with g decide value

  planned : CornerRun (P.needed v) (P.corner_value v) P.corners i b next left m.corners after
  unfolding plan_with
  planned =
      let size : v * n + n - v * n ≡ cube g.inner = omega (arith, cubed) in
      plan_corners g decide value m.kinds ready.lent.active_kinds ready.lent.kinds v ready.node (ap (λ k. v * k) cubed) size boxed run

  -- the corners past the node's are as they were
  pub node_past : SameBehind (cube (g.inner + 1)) m.corners after
  unfolding plan_with
  node_past = record { long = run_long planned; same = run_past planned }

  -- the code's corners stop before one that is needed
  pub node_at_corner : {to : List Event} {most : ℕ} → next < cube (g.inner + 1)
      → Advanced P b leaves m (memory_of m.kinds m.numbers m.places m.store after) (events_from P (Corner v i) (reading_in m)) to
      (progress leaves left (Some (Corner v next))) most
  unfolding plan_with
  node_at_corner short = corners_stopped P v i b leaves next left m after ready.lent planned short

  -- or come to the children
  pub node_past_corners : PlanLaws P → cube (g.inner + 1) ≤ next
      → Advanced P b leaves m (memory_of m.kinds m.numbers m.places m.store after) (events_from P (Corner v i) (reading_in m))
      (children_left P v 0 (λ j. get_or after j plus_zero)) (progress leaves left None) (active_before P v 0)
  unfolding plan_with
  node_past_corners laws last = corners_through P v i b leaves next left m after ready.lent planned laws ready.node last ready.at_most

module _ (g : Grid) (decide : BoundingBox → List Float → Verdict) (value : Float → Float → Float → Float) (v c p b leaves : ℕ) (m : Memory)
    (ready : Ready (plan_with g decide value) v (c + 1) leaves m) (below : c < cube g.inner) where
  abbrev Q : Plan
  Q = plan_with g decide value

  -- the leaves so far are inside the store
  pub leaves_inside : leaves * cube g.leaf ≤ length m.store
  unfolding plan_with
  leaves_inside =
      let few : leaves ≤ active_all Q = omega (arith, ready.at_most, before_most Q Q.active v (c + 1) ready.node (omega arith)) in
      omega (arith, ready.lent.store, mul-le-mul_right (cube g.leaf) few)

  -- points of the last leaf, that of child c
  pub node_points : {box child : BoundingBox} {store : List Float} {turn : Progress} → p ≤ cube g.leaf
      → box ≡ node_box g v → child ≡ child_box box g.inner c
      → turn ≡ leaf_progress leaves b v c p (cube g.leaf)
      → store ≡ filled ((leaves - 1) * cube g.leaf + p) (min b (cube g.leaf - p))
      (λ q. values.at value (leaf_point child g.leaf (q - (leaves - 1) * cube g.leaf))) m.store
      → Advanced Q b leaves m (memory_of m.kinds m.numbers m.places store m.corners) (events_from Q (Point v c p) (reading_in m))
      (children_left Q v (c + 1) (reading_in m)) turn (active_before Q v (c + 1))
  unfolding plan_with box_of
  node_points {box} {child} {store} {turn} within boxed lies goes stored =
      let lies' : child ≡ child_box (node_box g v) g.inner c = lies ∙ ap (λ x. child_box x g.inner c) boxed in
      let stored' : store ≡ filled_store Q v c p b leaves m.store =
      stored ∙ ap (λ x. filled ((leaves - 1) * cube g.leaf + p) (min b (cube g.leaf - p))
      (λ q. values.at value (leaf_point x g.leaf (q - (leaves - 1) * cube g.leaf))) m.store) lies' in
      let next : suc c ≡ c + 1 = sym (add-one c) in
      subst (λ n. Advanced Q b leaves m (memory_of m.kinds m.numbers m.places store m.corners) (events_from Q (Point v c p) (reading_in m))
      (children_left Q v n (reading_in m)) turn (active_before Q v n)) next
      (subst (λ l. Advanced Q b leaves m (memory_of m.kinds m.numbers m.places l m.corners) (events_from Q (Point v c p) (reading_in m))
      (children_left Q v (suc c) (reading_in m)) turn (active_before Q v (suc c))) (sym stored')
      (subst (λ t. Advanced Q b leaves m (memory_of m.kinds m.numbers m.places (filled_store Q v c p b leaves m.store) m.corners)
      (events_from Q (Point v c p) (reading_in m)) (children_left Q v (suc c) (reading_in m)) t (active_before Q v (suc c))) (sym goes)
      (turn_points Q v c p b leaves m ready.lent (subst (λ n. leaves ≤ active_before Q v n) (add-one c) ready.at_most) within)))

-- a job that may go on at a cursor that is known
pub known_start : (P : Plan) (at : Standing) {x : Cursor} → at.cursor ≡ x → {m : Memory} → Standable P at m → Startable P x at.leaves
known_start P at known ok = subst (λ y. Startable P y at.leaves) known ok.startable

-- at the end nothing is left
pub at_end_lem : (P : Plan) (b leaves : ℕ) (m : Memory) → Lent P m → leaves ≤ active_all P
    → Advanced P b leaves m m (events_from P End (reading_in m)) [] (progress leaves b None) (active_all P)
unfolding events_from
at_end_lem P b leaves m lent most = advanced_start P b leaves m [] (active_all P) lent most
