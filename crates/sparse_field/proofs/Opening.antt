-- What an accepted input and a possible record give the engine to start from.
use Prim.Native.Nat.{ℕ, ◌+◌, ◌*◌, ◌-◌, ◌≤◌, ◌<◌}
use mathlib.Core.Path.{◌≡◌, sym, ap, subst, ◌∙◌}
use mathlib.Core.List.{[]}
use native.Mathlib.Nat.{mul-pos}
use native.Mathlib.Omega.{arith}
use Rattle.std.specs.Prelude.{Ok, Some}
use Rattle.float.specs.Zero.{plus_zero}
use Rattle.input.specs.declared.Lengths.{Lengths}
use Rattle.grid.specs.Blocks.{cube}
use Rattle.grid.specs.Nodes.{nodes_of}
use Rattle.grid.specs.Limits.{children_of}
use Rattle.grid.proofs.LimitLaws.{inner_block, leaf_block, few_children}
use Rattle.grid.proofs.Counts.{i_above, j_above, k_above}
use Rattle.input.proofs.Clear.{Clear, clear}
use Rattle.schedule.specs.Schedule.{schedule, nodes_from}
use Rattle.schedule.specs.Plan.{Plan}
use Rattle.schedule.specs.Resume.{cursor_of, nodes_left, events_from}
use Rattle.schedule.specs.Split.{split}
use Rattle.schedule.specs.Memory.{Memory}
use Rattle.schedule.specs.Totals.{active_all, active_up_to}
use Rattle.schedule.specs.Engine.{opened_engine}
use Rattle.schedule.proofs.Activity.{opened_active, opened_lengths}
use Rattle.schedule.proofs.AfterFacts.{after}
use Rattle.schedule.proofs.Sums.{up_to_most}
use Rattle.schedule.proofs.StopFacts.{get_or_equal}
use Rattle.schedule.specs.PlanLaws.{Valid}
use Rattle.schedule.specs.Stops.{AtLeast}
use Rattle.schedule.specs.Opened as opens
use Rattle.schedule.specs.Opened.{lengths_of, ActiveKinds}
use Rattle.input.specs.declared.Input.{Input}
use Rattle.schedule.specs.declared.Cursor.{Cursor}
use Rattle.engine.specs.declared.Progress.{Progress}
use Rattle.schedule.specs.declared.Cursor.TheVariants.{End, Corner, Point}
use Rattle.plans.specs.Plan.{plan_with, plan_of, value_of, decide_by}
use Rattle.sparse_field.specs.Inner.Parts.{start_memory, cursor_at}
use Rattle.engine.specs.Inner.Sizes.{Sized}
use Rattle.engine.specs.Inner.Progress.{Lent, Advanced, reading_in, ZeroCorners}
use Rattle.plans.specs.Sparse.{sparse}
use Rattle.engine.specs.Inner.Startable.{Startable}
use Rattle.plans.proofs.Plans.{active_all_lem}
use Rattle.plans.proofs.Lawful.{sparse_laws}
use Rattle.engine.proofs.NodeLaws.{node_begins}
use Rattle.engine.specs.Inner.Runs.{run_of}
use Rattle.engine.proofs.ChildLaws.{active_few}
use Rattle.sparse_field.proofs.Results.{reached, final, engine_after}

-- sizes that no cause refuses
pub sized : (i : Input) {l : Lengths} → Clear i l → Sized i.grid
unfolding children_of
sized i none =
    let g = i.grid in
    record {
      inner_least = omega (arith, (inner_block g none.two).least);
      inner_most = (inner_block g none.two).most;
      leaf_least = omega (arith, (leaf_block g none.two).least);
      leaf_most = (leaf_block g none.two).most;
      children = few_children g none.five;
    }

-- memory whose lengths no cause refuses
pub lent_memory : (i : Input) (m : Memory) → Clear i (lengths_of m) → ActiveKinds (plan_of i) m.kinds → Lent (plan_of i) m
unfolding plan_with
lent_memory i m none right = record {
  kinds = none.lent.kinds;
  numbers = none.lent.numbers;
  places = none.lent.places;
  store = subst (λ n. n * cube i.grid.leaf ≤ (lengths_of m).store) (sym (active_all_lem i.grid (decide_by i.band) (value_of i.model))) none.lent.store;
  corners = none.lent.corners;
  active_kinds = right;
}

-- a cursor of the plan is one where the engine may go on
pub valid_startable : (P : Plan) (a : Cursor) (n : ℕ) → Valid P a → n ≤ active_up_to P a → AtLeast 1 a n → Startable P a n
unfolding active_up_to
valid_startable P End n valid most least = tt
valid_startable P (Corner v i) n valid most least = (valid.0, omega (arith, valid.1), most)
valid_startable P (Point v c p) n valid most least = (valid.0, valid.1, omega (arith, valid.3), least, most)

-- there are few active children
pub active_within : (i : Input) → Sized i.grid → active_all (plan_of i) ≤ 16777216
active_within i size = active_few i.grid (decide_by i.band) (value_of i.model) size

-- ---- the start of a job

module _ (i : Input) (l : Lengths) (none : sparse.answer l i ≡ Ok tt) where
  abbrev P : Plan
  P = plan_of i

  pub nothing : Clear i l
  nothing = clear i l none

  -- the memory that open prepares is lent
  pub start_lent : Lent P (start_memory i l)
  start_lent =
      lent_memory i (start_memory i l) (subst (Clear i) (sym (opened_lengths P l)) nothing) (opened_active P l)

  -- its corners are all +0
  start_cleared : ZeroCorners (start_memory i l)
  unfolding opens.opened
  start_cleared j = get_or_equal plus_zero l.corners j

  -- there is a node
  some_node : 0 < P.nodes
  unfolding plan_with nodes_of
  some_node = mul-pos (mul-pos (i_above i.grid) (j_above i.grid)) (k_above i.grid)

  pub start_startable : Startable P (Corner 0 0) 0
  start_startable = (some_node, omega arith, omega arith)

  -- what is left at its first corner is the whole schedule
  pub start_events : events_from P (Corner 0 0) (reading_in (start_memory i l)) ≡ schedule P
  unfolding nodes_left schedule
  start_events =
      let all : P.nodes - 0 ≡ P.nodes = omega arith in
      sym (node_begins P 0 (start_memory i l) some_node start_cleared) ∙ ap (λ n. nodes_from P n 0) all

  -- a job's work from its first corner on is work on the whole schedule
  start_done : {m m₁ : Memory} {r : Progress} → m ≡ start_memory i l
      → Advanced P 0 0 m m₁ (events_from P (Corner 0 0) (reading_in m)) [] r (active_all P)
      → Advanced P 0 0 (start_memory i l) m₁ (schedule P) [] r (active_all P)
  start_done {m} {m₁} {r} start done =
      subst (λ es. Advanced P 0 0 (start_memory i l) m₁ es [] r (active_all P)) start_events
      (subst (λ x. Advanced P 0 0 x m₁ (events_from P (Corner 0 0) (reading_in x)) [] r (active_all P)) start done)

  -- the engine after an accepted open, from what a job's work has come to
  pub opened_after : {m m₁ : Memory} {r : Progress} → m ≡ start_memory i l
      → Advanced P 0 0 m m₁ (events_from P (Corner 0 0) (reading_in m)) [] r (active_all P)
      → opened_engine sparse i l
      ≡ record { job = Some (reached i l r.leaves 0 (cursor_at r.stop)); memory = m₁ }
  unfolding opens.opened
  opened_after {m} {m₁} {r} start done =
      let none : 0 + (0 - r.left) ≡ 0 = omega arith in
      engine_after i l 0 0 0 (active_all P) (start_memory i l) m₁ (schedule P) r (start_done start done)
      ∙ ap (λ k. record { job = Some (reached i l r.leaves k (cursor_at r.stop)); memory = m₁ }) none

  -- its leaves are among the active children
  pub opened_leaves : {m m₁ : Memory} {r : Progress} → m ≡ start_memory i l
      → Advanced P 0 0 m m₁ (events_from P (Corner 0 0) (reading_in m)) [] r (active_all P) → r.leaves ≤ active_all P
  unfolding opens.opened opens.state_at run_of
  opened_leaves {m} {m₁} {r} start done =
      let laws = sparse_laws.plan_laws l i none in
      let facts = after P laws l (sparse_laws.enough_corners l i none) 0 in
      let same : (opens.state_at P l 0).leaves ≡ r.leaves =
      ap (λ x. x.state.leaves) (final i l 0 0 0 (active_all P) (start_memory i l) m₁ (schedule P) r (start_done start done)) in
      omega (arith, same, facts.at_most, up_to_most P (cursor_of (split 0 (schedule P)).rest) facts.resumes.valid)
