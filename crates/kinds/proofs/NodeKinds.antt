-- Kinds of a node, by the tables of three axes, and of all nodes.
use mathlib.Core.Path.{◌≡◌, refl, sym, ap, ◌∙◌}
use mathlib.Core.Bool.{Bool, true, false, ◌&&◌}
use mathlib.Core.List.{List, [], ◌++◌, append-nil}
use Prim.Native.Nat.{ℕ, zero, suc, ◌+◌, ◌*◌, ◌-◌, ◌≤◌, ◌<◌}
use native.Mathlib.Nat.{zero-add, mul-pos, mul_assoc, div-lt_iff_lt-mul}
use native.Mathlib.Omega.{arith}
use lib.ListN.{length, take, drop, replicate, length-append, length-drop, take-append-drop, drop_of_length-le}
use lib.Seq.{take_at, drop_at, take_all, length-take-le}
use borrow.Author.Tests.{lt-ltb, le-ltb}
use borrow.Rule.Slice.PartMut.{put_mid}
use Rattle.lists.specs.Flags.{flags_from, agrees_from}
use Rattle.lists.proofs.Flags.{length_flags, flags_cong, flags_append, flags_none, agrees_cong, agrees_append, agrees_not}
use Rattle.geometry.specs.Index.{indices_of}
use Rattle.geometry.specs.declared.Vec3i.{Vec3i}
use Rattle.geometry.proofs.Inverse.{column_below, line_below}
use Rattle.grid.specs.declared.Grid.{Grid}
use Rattle.grid.specs.Blocks.{cube}
use Rattle.grid.specs.Nodes.{node_counts, nodes_of}
use Rattle.grid.specs.Limits.{children_of}
use Rattle.grid.specs.Boxes.{active, child_indices}
use Rattle.grid.specs.Inner.Activity.{axis_active}
use Rattle.grid.proofs.Active.{by_axes}
use Rattle.grid.proofs.ActiveCounts.{along_x, along_y, along_z}
use Rattle.grid.specs.declared.axes.Axes.{Axes}
use Rattle.grid.specs.Axes.{axes_of}
use Rattle.kinds.specs.declared.tables.NodeTables.{NodeTables}
use Rattle.kinds.specs.Inner.Tables.{table_test, node_test, grid_test, active_child}

-- ---- a node's children, by the tables of three axes

turned : (x y z : Bool) → (z && (y && x)) ≡ (x && y && z)
turned true true true = refl
turned true true false = refl
turned true false true = refl
turned true false false = refl
turned false true true = refl
turned false true false = refl
turned false false true = refl
turned false false false = refl

module _ (g : Grid) (v : ℕ) (xs ys zs : List Bool) {axes : Axes} {nodes at : Vec3i} (ha : axes ≡ axes_of g) (hn : nodes ≡ node_counts g)
    (hat : at ≡ indices_of v nodes.i nodes.j)
    (hx : (c : ℕ) → c < axes.x.n → table_test xs c ≡ axis_active axes.x.least axes.x.most axes.x.size axes.x.n at.i c)
    (hy : (c : ℕ) → c < axes.y.n → table_test ys c ≡ axis_active axes.y.least axes.y.most axes.y.size axes.y.n at.j c)
    (hz : (c : ℕ) → c < axes.z.n → table_test zs c ≡ axis_active axes.z.least axes.z.most axes.z.size axes.z.n at.k c) where
  pub by_tables : (c : ℕ) → c < cube g.inner → node_test g.inner xs ys zs c ≡ active g v c
  unfolding indices_of
  by_tables c h =
      let n = g.inner in
      let above : 0 < n = positive n h in
      let area : 0 < n * n = mul-pos above above in
      let place = hat ∙ (λ t. indices_of v (hn t).i (hn t).j) in
      let ch = child_indices n c in
      let x = hx ch.i (omega (arith, along_x g ha, column_below c n n above above))
      ∙ (λ t. axis_active (ha t).x.least (ha t).x.most (ha t).x.size (ha t).x.n (place t).i ch.i) in
      let y = hy ch.j (omega (arith, along_y g ha, line_below c n n above above))
      ∙ (λ t. axis_active (ha t).y.least (ha t).y.most (ha t).y.size (ha t).y.n (place t).j ch.j) in
      let slab : ch.k < n = (div-lt_iff_lt-mul area).1 (omega (arith, mul_assoc n n n)) in
      let z = hz ch.k (omega (arith, along_z g ha, slab))
      ∙ (λ t. axis_active (ha t).z.least (ha t).z.most (ha t).z.size (ha t).z.n (place t).k ch.k) in
      turned (table_test xs ch.i) (table_test ys ch.j) (table_test zs ch.k)
      ∙ (λ t. x t && y t && z t)
      ∙ sym (by_axes g v c)
    where
      positive : (n : ℕ) → c < cube n → 0 < n
      positive zero h = absurd (omega arith)
      positive (suc n) h = omega arith

-- what tables that tell the active children give
module _ (g : Grid) (v : ℕ) (t : NodeTables) (size : t.n ≡ g.inner)
    (same : (c : ℕ) → c < cube g.inner → node_test t.n t.xs t.ys t.zs c ≡ active g v c) where
  pub node_flags : flags_from (node_test t.n t.xs t.ys t.zs) (cube t.n) 0 ≡ flags_from (active g v) (cube g.inner) 0
  node_flags =
      ap (λ (m : ℕ). flags_from (node_test t.n t.xs t.ys t.zs) (cube m) 0) size
      ∙ flags_cong (node_test t.n t.xs t.ys t.zs) (active g v) (cube g.inner) 0 0 (λ c h. rw (zero-add c) (same c h))

  pub node_agrees : (part : List ℕ) → length part ≡ cube g.inner → agrees_from (node_test t.n t.xs t.ys t.zs) 0 part ≡ agrees_from (active g v) 0 part
  node_agrees part long = agrees_cong (node_test t.n t.xs t.ys t.zs) (active g v) 0 0 part (λ c h. rw (zero-add c) (same c (omega arith)))

-- ---- all kinds

module _ (g : Grid) (total : ℕ) (e : total ≡ children_of g) where
  in_nodes : (j : ℕ) → j < total → grid_test g j ≡ active_child g j
  unfolding children_of
  in_nodes j h = rw (lt-ltb j (nodes_of g * cube g.inner) (omega arith)) refl

  past_nodes : (j : ℕ) → total ≤ j → active_child g j ≡ false
  unfolding children_of
  past_nodes j h = rw (le-ltb j (nodes_of g * cube g.inner) (omega arith)) refl

  -- the kinds of all nodes, then zeros
  pub all_kinds : (rest : ℕ) → flags_from (grid_test g) total 0 ++ replicate rest 0 ≡ flags_from (active_child g) (total + rest) 0
  all_kinds rest =
      let nodes : flags_from (grid_test g) total 0 ≡ flags_from (active_child g) total 0 =
      flags_cong (grid_test g) (active_child g) total 0 0 (λ j h. rw (zero-add j) (in_nodes j h)) in
      let tail : replicate rest 0 ≡ flags_from (active_child g) rest (0 + total) =
      flags_none rest 0 ∙ flags_cong (λ _. false) (active_child g) rest 0 (0 + total) (λ j h. sym (past_nodes (0 + total + j) (omega arith))) in
      (λ t. nodes t ++ tail t) ∙ sym (flags_append (active_child g) total rest 0)

  -- a slice whose nodes are set, and which is then zeroed from there on
  pub all_set : (l part rest : List ℕ) {d : ℕ} → total ≤ length l → part ≡ flags_from (grid_test g) (children_of g) 0 → d ≡ length (part ++ drop total l) - total
      → rest ≡ replicate (length (take d (drop total (part ++ drop total l)))) 0
      → put_mid total d (part ++ drop total l) rest ≡ flags_from (active_child g) (length l) 0
  all_set l part rest {d} long hp hd hrest =
      let flags : part ≡ flags_from (grid_test g) total 0 = hp ∙ ap (λ (k : ℕ). flags_from (grid_test g) k 0) (sym e) in
      let size : length part ≡ total = ap length flags ∙ length_flags (grid_test g) total 0 in
      let front : take total (part ++ drop total l) ≡ part = take_at part (drop total l) total size in
      let back : drop total (part ++ drop total l) ≡ drop total l = drop_at part (drop total l) total size in
      let left : length (drop total l) ≡ length l - total = length-drop total l in
      let whole : length (part ++ drop total l) ≡ length l = omega (arith, length-append part (drop total l)) in
      let many : length (drop total l) ≤ d = omega arith in
      let zeros : rest ≡ replicate (length l - total) 0 =
      hrest ∙ ap (λ (k : List ℕ). replicate (length (take d k)) 0) back
      ∙ ap (λ (k : List ℕ). replicate (length k) 0) (take_all d (drop total l) many) ∙ ap (λ (k : ℕ). replicate k 0) left in
      let none : drop d (drop total (part ++ drop total l)) ≡ [] = ap (drop d) back ∙ drop_of_length-le (drop total l) {i = d} many in
      let sum : total + (length l - total) ≡ length l = omega arith in
      (λ t. (front ∙ flags) t ++ (zeros t ++ none t))
      ∙ ap (λ (k : List ℕ). flags_from (grid_test g) total 0 ++ k) (append-nil (replicate (length l - total) 0))
      ∙ all_kinds (length l - total)
      ∙ ap (λ (k : ℕ). flags_from (active_child g) k 0) sum

  -- kinds that are not right in a node
  pub all_differ : (l : List ℕ) → total ≤ length l → agrees_from (grid_test g) 0 (take total l) ≡ false → false ≡ agrees_from (active_child g) 0 l
  all_differ l long h =
      agrees_not (active_child g) l 0 total (omega arith) (grid_test g) (λ j below. rw (zero-add j) (sym (in_nodes j below))) h

  -- kinds that are right in all nodes, by those past them
  pub all_agree : (l : List ℕ) → total ≤ length l → agrees_from (grid_test g) 0 (take total l) ≡ true
      → agrees_from (λ _. false) 0 (take (length l - total) (drop total l)) ≡ agrees_from (active_child g) 0 l
  all_agree l long h =
      let size : length (take total l) ≡ total = length-take-le total l long in
      let nodes : agrees_from (active_child g) 0 (take total l) ≡ true =
      agrees_cong (active_child g) (grid_test g) 0 0 (take total l) (λ j below. rw (zero-add j) (sym (in_nodes j (omega arith)))) ∙ h in
      let tail : agrees_from (λ _. false) 0 (drop total l) ≡ agrees_from (active_child g) (0 + length (take total l)) (drop total l) =
      agrees_cong (λ _. false) (active_child g) 0 (0 + length (take total l)) (drop total l)
      (λ j below. sym (past_nodes (0 + length (take total l) + j) (omega arith))) in
      ap (agrees_from (λ _. false) 0) (take_all (length l - total) (drop total l) (omega (arith, length-drop total l)))
      ∙ tail
      ∙ ap (λ (b : Bool). b && agrees_from (active_child g) (0 + length (take total l)) (drop total l)) (sym nodes)
      ∙ sym (agrees_append (active_child g) 0 (take total l) (drop total l))
      ∙ ap (agrees_from (active_child g) 0) (take-append-drop total l)
