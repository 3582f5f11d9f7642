-- What each test of a grid decides, and what holds of a grid that causes 2 and 5 do not refuse.
use Rattle.std.proofs.Common.{◌≡◌, ℕ, ◌+◌, ◌*◌, ◌≤◌, true, false, not, ◌||◌, ltb, ap, mul_assoc, mul-le-mul, mul-le-mul_left, mul-add, arith, ltb-false, le-ltb}
use lib.Ieee.Scale.{finite}
use borrow.Author.Tests.{not-false}
use Rattle.lists.proofs.Tests.{or_left, or_right, or_fifth}
use Rattle.grid.specs.declared.Grid.{Grid}
use Rattle.grid.specs.Blocks.{is_block, cube}
use Rattle.grid.specs.Nodes.{size_of, node_counts, nodes_of}
use Rattle.grid.specs.Boxes.{active}
use Rattle.grid.specs.Counting.{active_in, active_of}
use Rattle.grid.specs.Limits.{refused_by_two, refused_by_five, children_of}
use Rattle.grid.proofs.BlockLaws.{Block, block, cube_le}
use Rattle.lists.proofs.Ranges.{count_below_le}
use Rattle.lists.proofs.Sums.{sum_below_most}

-- ---- cause 2

pub inner_block : (g : Grid) → refused_by_two g ≡ false → Block g.inner
unfolding refused_by_two
inner_block g e = block g.inner (not-false _ (or_left _ _ e))

pub leaf_block : (g : Grid) → refused_by_two g ≡ false → Block g.leaf
unfolding refused_by_two
leaf_block g e = block g.leaf (not-false _ (or_right (not (is_block g.inner)) _ e))

-- ---- cause 5

module _ (g : Grid) where
  pub five_last : finite (size_of g) ≡ true → (node_counts g).i ≤ 1024 → (node_counts g).j ≤ 1024 → (node_counts g).k ≤ 1024
      → ltb 16777216 (children_of g) ≡ refused_by_five g
  unfolding refused_by_five
  five_last h hi hj hk =
      let n = node_counts g in
      or_fifth (not (finite (size_of g))) (ltb 1024 n.i) (ltb 1024 n.j) (ltb 1024 n.k) (ltb 16777216 (children_of g))
      (ap not h)
      (le-ltb _ _ hi)
      (le-ltb _ _ hj)
      (le-ltb _ _ hk)

-- nodes along the axes that are not too many
pub record FewNodes (g : Grid) : Type 0 where
  pub x : (node_counts g).i ≤ 1024
  pub y : (node_counts g).j ≤ 1024
  pub z : (node_counts g).k ≤ 1024

pub few_nodes : (g : Grid) → refused_by_five g ≡ false → FewNodes g
unfolding refused_by_five
few_nodes g e =
    let n = node_counts g in
    let d = or_left (not (finite (size_of g)) || ltb 1024 n.i || ltb 1024 n.j || ltb 1024 n.k) _ e in
    let c = or_left (not (finite (size_of g)) || ltb 1024 n.i || ltb 1024 n.j) _ d in
    let b = or_left (not (finite (size_of g)) || ltb 1024 n.i) _ c in
    record {
      x = ltb-false _ _ (or_right (not (finite (size_of g))) _ b);
      y = ltb-false _ _ (or_right (not (finite (size_of g)) || ltb 1024 n.i) _ c);
      z = ltb-false _ _ (or_right (not (finite (size_of g)) || ltb 1024 n.i || ltb 1024 n.j) _ d);
    }

pub few_children : (g : Grid) → refused_by_five g ≡ false → children_of g ≤ 16777216
unfolding refused_by_five
few_children g e =
    let n = node_counts g in
    ltb-false _ _ (or_right (not (finite (size_of g)) || ltb 1024 n.i || ltb 1024 n.j || ltb 1024 n.k) _ e)

-- ---- products that fit

pub area_few : (a b : ℕ) → a ≤ 1024 → b ≤ 1024 → a * b ≤ 1048576
area_few a b ha hb = mul-le-mul {n₂ = 1024} {m₂ = 1024} ha hb

pub volume_few : (a b c : ℕ) → a ≤ 1024 → b ≤ 1024 → c ≤ 1024 → a * b * c ≤ 1073741824
volume_few a b c ha hb hc = mul-le-mul {n₂ = 1048576} {m₂ = 1024} (area_few a b ha hb) hc

pub nodes_few : (g : Grid) → FewNodes g → nodes_of g ≤ 1073741824
unfolding nodes_of
nodes_few g few = volume_few _ _ _ few.x few.y few.z

-- children of so many nodes
pub product_few : (a r : ℕ) → a ≤ 1073741824 → r ≤ 262144 → a * r ≤ 281474976710656
product_few a r ha hr = mul-le-mul {n₂ = 1073741824} {m₂ = 262144} ha hr

-- counts along the axes
pub totals_area : (a b : ℕ) → a ≤ 65536 → b ≤ 65536 → a * b ≤ 4294967296
totals_area a b ha hb = mul-le-mul {n₂ = 65536} {m₂ = 65536} ha hb

pub totals_volume : (a b c : ℕ) → a ≤ 65536 → b ≤ 65536 → c ≤ 65536 → a * b * c ≤ 281474976710656
totals_volume a b c ha hb hc = mul-le-mul {n₂ = 4294967296} {m₂ = 65536} (totals_area a b ha hb) hc

-- the active children are no more than the children
pub active_few : (g : Grid) → active_of g ≤ children_of g
unfolding active_of active_in children_of
active_few g = sum_below_most (nodes_of g) (cube g.inner) (active_in g) (λ v. count_below_le (cube g.inner) (active g v))

pub store_few : (a r : ℕ) → a ≤ 16777216 → r ≤ 262144 → a * r ≤ 4398046511104
store_few a r ha hr = mul-le-mul {n₂ = 16777216} {m₂ = 262144} ha hr

-- ---- what a job of the grid can need

-- the bound on evaluations fits
pub record BoundFits (g : Grid) : Type 0 where
  pub nodes : nodes_of g ≤ 2097152
  pub corners : cube (g.inner + 1) ≤ 274625
  pub children : cube g.inner ≤ 262144
  pub points : cube g.leaf ≤ 262144
  pub product : cube g.inner * cube g.leaf ≤ 68719476736
  pub bound : nodes_of g * (cube (g.inner + 1) + cube g.inner * cube g.leaf) ≤ 5000000000000

pub bound_fits : (g : Grid) → refused_by_two g ≡ false → refused_by_five g ≡ false → BoundFits g
unfolding children_of
bound_fits g two five =
    let n = inner_block g two in
    let l = leaf_block g two in
    let all : nodes_of g * cube g.inner ≤ 16777216 = few_children g five in
    let eight : 8 ≤ cube g.inner = cube_le g.inner 2 n.least in
    let nodes : nodes_of g ≤ 2097152 = omega (arith, mul-le-mul_left (nodes_of g) eight) in
    let corners : cube (g.inner + 1) ≤ 274625 = cube_le 65 (g.inner + 1) (omega (arith, n.most)) in
    let children : cube g.inner ≤ 262144 = cube_le 64 g.inner n.most in
    let points : cube g.leaf ≤ 262144 = cube_le 64 g.leaf l.most in
    let first : nodes_of g * cube (g.inner + 1) ≤ 2097152 * 274625 = mul-le-mul nodes corners in
    let second : nodes_of g * cube g.inner * cube g.leaf ≤ 16777216 * 262144 = mul-le-mul all points in
    record {
      nodes = nodes;
      corners = corners;
      children = children;
      points = points;
      product = mul-le-mul {n₂ = 262144} {m₂ = 262144} children points;
      bound = omega (arith, mul-add (nodes_of g) (cube (g.inner + 1)) (cube g.inner * cube g.leaf), mul_assoc (nodes_of g) (cube g.inner) (cube g.leaf));
    }
