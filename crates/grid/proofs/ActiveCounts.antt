-- The active children of a node, and of the grid, are a product of counts along the three axes.
use Rattle.std.proofs.Common.{◌≡◌, ℕ, ◌+◌, ◌*◌, ◌≤◌, Bool, ◌&&◌, sym, ◌∙◌, mul-le-mul, add-one, arith}
use lib.Ieee.{Float, binary64, add, mul, le}
use Rattle.geometry.specs.Index.{indices_of}
use Rattle.geometry.specs.Axis.{as_float, step_along, along, along_end}
use Rattle.geometry.specs.declared.Vec3i.{Vec3i}
use Rattle.grid.specs.declared.Grid.{Grid}
use Rattle.grid.specs.declared.axes.Axes.{Axes}
use Rattle.grid.specs.Axes.{axes_of}
use Rattle.lists.specs.Ranges.{count_below}
use Rattle.grid.specs.Blocks.{cube}
use Rattle.grid.specs.Nodes.{size_of, node_counts, nodes_of}
use Rattle.grid.specs.Boxes.{active, node_indices, child_indices, node_least, node_most}
use Rattle.grid.specs.Inner.Activity.{axis_active, axis_count, axis_total}
use Rattle.lists.specs.Sums.{bit}
use Rattle.grid.specs.Counting.{active_in, active_of}
use Rattle.grid.proofs.Active.{by_axes}
use Rattle.lists.proofs.Ranges.{count_below_cong, count_below_le}
use Rattle.lists.proofs.Sums.{sum_below_cong, sum_below_snoc, sum_below_most}
use Rattle.grid.proofs.PlaceSums.{sum_places, count_places}

module _ (g : Grid) where
  pub active_in_lem : (v : ℕ) → let at = node_indices g v in
      let b = g.bounds in
      let s = size_of g in
      let n = g.inner in
      active_in g v
      ≡ axis_count b.min.x b.max.x s n at.i * axis_count b.min.y b.max.y s n at.j * axis_count b.min.z b.max.z s n at.k
  unfolding active_in axis_count
  active_in_lem v =
      let at = node_indices g v in
      let b = g.bounds in
      let s = size_of g in
      let n = g.inner in
      let x : ℕ → Bool = axis_active b.min.x b.max.x s n at.i in
      let y : ℕ → Bool = axis_active b.min.y b.max.y s n at.j in
      let z : ℕ → Bool = axis_active b.min.z b.max.z s n at.k in
      count_below_cong (cube n) (active g v) (λ c. let ch = child_indices n c in x ch.i && y ch.j && z ch.k) (λ c below. by_axes g v c)
      ∙ count_places n n n x y z

  pub active_of_lem : let m = node_counts g in
      let b = g.bounds in
      let s = size_of g in
      let n = g.inner in
      active_of g
      ≡ axis_total b.min.x b.max.x s n m.i * axis_total b.min.y b.max.y s n m.j * axis_total b.min.z b.max.z s n m.k
  unfolding active_of nodes_of axis_total
  active_of_lem =
      let m = node_counts g in
      let b = g.bounds in
      let s = size_of g in
      let n = g.inner in
      let x : ℕ → ℕ = axis_count b.min.x b.max.x s n in
      let y : ℕ → ℕ = axis_count b.min.y b.max.y s n in
      let z : ℕ → ℕ = axis_count b.min.z b.max.z s n in
      sum_below_cong (m.i * m.j * m.k) (active_in g) (λ v. let at = node_indices g v in x at.i * y at.j * z at.k) (λ v below. active_in_lem v)
      ∙ sum_places m.i m.j m.k x y z

-- how large the counts of an axis are
module _ (least most s : Float) (n : ℕ) where
  pub axis_count_le : (i : ℕ) → axis_count least most s n i ≤ n
  unfolding axis_count
  axis_count_le i = count_below_le n (axis_active least most s n i)

  pub axis_total_le : (nodes : ℕ) → axis_total least most s n nodes ≤ nodes * n
  unfolding axis_total
  axis_total_le nodes = sum_below_most nodes n (axis_count least most s n) axis_count_le

-- ---- one more child, and one more node, along an axis

module _ (least most s : Float) (n i : ℕ) where
  -- the code's test of child c, by where its node begins and what c is as a float
  pub axis_met : (c : ℕ) {from fc step : Float} {r : ℕ} → from ≡ node_least least s i → step ≡ step_along from (add binary64 from s) n → fc ≡ as_float c
      → r ≡ bit (le least (add binary64 (add binary64 from (mul binary64 fc step)) step) && le (add binary64 from (mul binary64 fc step)) most)
      → r ≡ bit (axis_active least most s n i c)
  unfolding axis_active node_most along along_end
  axis_met c hi hs hc hr =
      let step = hs ∙ (λ t. step_along (hi t) (add binary64 (hi t) s) n) in
      hr
      ∙ (λ t.
      bit (le least (add binary64 (add binary64 (hi t) (mul binary64 (hc t) (step t))) (step t))
      && le (add binary64 (hi t) (mul binary64 (hc t) (step t))) most))

  pub axis_count_more : (c : ℕ) {count r : ℕ} → count ≡ count_below c (axis_active least most s n i) → r ≡ bit (axis_active least most s n i c)
      → count + r ≡ count_below (c + 1) (axis_active least most s n i)
  axis_count_more c hc hr = rw (add-one c) ((λ t. hc t + hr t) ∙ sym (sum_below_snoc (λ k. bit (axis_active least most s n i k)) c))

pub axis_total_more : (least most s : Float) (n i : ℕ) {total r : ℕ} → total ≡ axis_total least most s n i → r ≡ axis_count least most s n i
    → total + r ≡ axis_total least most s n (i + 1)
unfolding axis_total
axis_total_more least most s n i ht hr = rw (add-one i) ((λ t. ht t + hr t) ∙ sym (sum_below_snoc (axis_count least most s n) i))

-- ---- the products of the code, from what its calls return

module _ (g : Grid) {axes : Axes} {nodes : Vec3i} (ha : axes ≡ axes_of g) (hn : nodes ≡ node_counts g) {x y z : ℕ} where
  pub active_in_by : (v : ℕ) {at : Vec3i} → at ≡ indices_of v nodes.i nodes.j
      → x ≡ axis_count axes.x.least axes.x.most axes.x.size axes.x.n at.i
      → y ≡ axis_count axes.y.least axes.y.most axes.y.size axes.y.n at.j
      → z ≡ axis_count axes.z.least axes.z.most axes.z.size axes.z.n at.k
      → x * y * z ≡ active_in g v
  active_in_by v hat hx hy hz =
      let at = hat ∙ (λ t. indices_of v (hn t).i (hn t).j) in
      let px = hx ∙ (λ t. axis_count (ha t).x.least (ha t).x.most (ha t).x.size (ha t).x.n (at t).i) in
      let py = hy ∙ (λ t. axis_count (ha t).y.least (ha t).y.most (ha t).y.size (ha t).y.n (at t).j) in
      let pz = hz ∙ (λ t. axis_count (ha t).z.least (ha t).z.most (ha t).z.size (ha t).z.n (at t).k) in
      (λ t. px t * py t * pz t) ∙ sym (active_in_lem g v)

  pub active_of_by : x ≡ axis_total axes.x.least axes.x.most axes.x.size axes.x.n nodes.i
      → y ≡ axis_total axes.y.least axes.y.most axes.y.size axes.y.n nodes.j
      → z ≡ axis_total axes.z.least axes.z.most axes.z.size axes.z.n nodes.k
      → x * y * z ≡ active_of g
  active_of_by hx hy hz =
      let px = hx ∙ (λ t. axis_total (ha t).x.least (ha t).x.most (ha t).x.size (ha t).x.n (hn t).i) in
      let py = hy ∙ (λ t. axis_total (ha t).y.least (ha t).y.most (ha t).y.size (ha t).y.n (hn t).j) in
      let pz = hz ∙ (λ t. axis_total (ha t).z.least (ha t).z.most (ha t).z.size (ha t).z.n (hn t).k) in
      (λ t. px t * py t * pz t) ∙ sym (active_of_lem g)

-- the children along each axis are those of the grid
module _ (g : Grid) {axes : Axes} (ha : axes ≡ axes_of g) where
  pub along_x : axes.x.n ≡ g.inner
  along_x t = (ha t).x.n

  pub along_y : axes.y.n ≡ g.inner
  along_y t = (ha t).y.n

  pub along_z : axes.z.n ≡ g.inner
  along_z t = (ha t).z.n

-- the nodes of so many children fit
pub total_few : (least most s : Float) (n : ℕ) → n ≤ 64 → {x : ℕ} (nodes : ℕ) → nodes ≤ 1024 → x ≡ axis_total least most s n nodes → x ≤ 65536
total_few least most s n small nodes few e =
    let product : nodes * n ≤ 65536 = mul-le-mul {n₂ = 1024} {m₂ = 64} few small in
    omega (arith, axis_total_le least most s n nodes)
