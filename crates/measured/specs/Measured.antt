-- Facts about the rules that were measured before anything was proved, as one statement.
use Rattle.std.specs.Prelude.{◌≡◌, Bool, true, false, not, List, ℕ, length, get_or, replicate, pos, negsuc, Float}
use Rattle.std.specs.Float.{nan, fin, binary64}
use Rattle.std.specs.Float.Ieee.{of_bits, add, eq, le}
use Rattle.root.specs.Root.{square_root}
use Rattle.float.specs.Zero.{plus_zero}
use Rattle.geometry.specs.declared.Vec3i.{Vec3i}
use Rattle.geometry.specs.declared.BoundingBox.{BoundingBox}
use Rattle.geometry.specs.Values.{vec3, vec3i, box}
use Rattle.geometry.specs.Axis.{as_float}
use Rattle.dense_field.specs.Field.{points_of}
use Rattle.dense_field.specs.Padding.{padded}
use Rattle.dense_field.specs.Threshold.{cut}
use Rattle.dense_field.specs.Smoothing.{smoothed}
use Rattle.grid.specs.declared.Grid.{Grid}
use Rattle.grid.specs.declared.Kind.TheVariants.{Active}
use Rattle.grid.specs.declared.Verdict.TheVariants.{Constant, Leaf}
use Rattle.lists.specs.Ranges.{count_below}
use Rattle.grid.specs.Blocks.{cube}
use Rattle.grid.specs.Nodes.{nodes_along, nodes_of}
use Rattle.grid.specs.Boxes.{active}
use Rattle.grid.specs.Counting.{active_of}
use Rattle.grid.specs.Corners.{needed_corners}
use Rattle.grid.specs.Pruning.{half_diagonal, lowest, highest, pruned, verdict_of}

-- floats by name: -0, -1, 1/2, and the next float above 2
abbrev pub minus_zero : Float
minus_zero = fin true 0 (pos 0)

abbrev pub minus_one : Float
minus_one = fin true 1 (pos 0)

abbrev pub half : Float
half = fin false 1 (negsuc 0)

abbrev pub above_two : Float
above_two = of_bits binary64 0x4000_0000_0000_0001

-- bounds from 0 to an end on each axis, with cell 1 and the blocks given
abbrev pub cubic : (end : Float) (inner leaf : ℕ) → Grid
cubic end inner leaf =
    record { bounds = box (vec3 (as_float 0) (as_float 0) (as_float 0)) (vec3 end end end); cell = as_float 1; inner = inner; leaf = leaf }

-- that it has one node, so many active children, and these need so many corners
pub record OneNode (g : Grid) (children corners : ℕ) : Type 0 where
  pub nodes : nodes_of g ≡ 1
  pub met : active_of g ≡ children
  pub needed : length (needed_corners g.inner (active g 0)) ≡ corners

-- 64 values, each +0
abbrev pub zeros64 : List Float
zeros64 = replicate 64 plus_zero

-- whether a place holds another number after than before
abbrev pub changed : (before after : List Float) → ℕ → Bool
changed before after p = not (eq (get_or before p plus_zero) (get_or after p plus_zero))

-- an axis of 2 points
pub data OfTwo (n : Vec3i) : Type 0 where
  along_x : n.i ≡ 2 → OfTwo n
  along_y : n.j ≡ 2 → OfTwo n
  along_z : n.k ≡ 2 → OfTwo n

-- the centre of 3 × 3 × 3 stands at 13, and its neighbours at 14, 12, 16, 10, 22 and 4
pub record CentreOfSixes (vs : List Float) : Type 0 where
  pub centre : get_or vs 13 plus_zero ≡ as_float 0
  pub right : get_or vs 14 plus_zero ≡ as_float 6
  pub left : get_or vs 12 plus_zero ≡ as_float 6
  pub behind : get_or vs 16 plus_zero ≡ as_float 6
  pub before : get_or vs 10 plus_zero ≡ as_float 6
  pub above : get_or vs 22 plus_zero ≡ as_float 6
  pub below : get_or vs 4 plus_zero ≡ as_float 6

-- all facts together
pub record Measured : Type 0 where
  -- with blocks of 2 and 2, bounds that end at the middle of the one node meet all 8 children (rule G7)
  pub blocks_2_2 : OneNode (cubic (as_float 1) 2 2) 8 27
  -- with 4 and 2 they meet 8 out of 64, and these need 27 out of 125 corners (rules G7 and G9)
  pub blocks_4_2 : OneNode (cubic (as_float 1) 4 2) 8 27 × (cube 4 ≡ 64) × (cube 5 ≡ 125)
  -- bounds that are one point meet one child, with its 8 corners (rules G7 and G9)
  pub bounds_0_0 : OneNode (cubic (as_float 0) 2 2) 1 8
  -- an extent of one node size is one node, and with one float more it is two (rule G3)
  pub extent_2 : (nodes_along (as_float 0) (as_float 2) (as_float 2) ≡ 1) × (nodes_along (as_float 0) above_two (as_float 2) ≡ 2)
  -- a child whose upper sum just meets the band is a leaf, for every octet and every child's box (rule G13)
  pub at_the_edge : (octet : List Float) (b : BoundingBox) (least most : Float) → eq (add binary64 (highest octet) (half_diagonal b)) least ≡ true
      → le least most ≡ true → verdict_of least most b octet ≡ Leaf
  -- a child with a NaN at every corner is a leaf (rule G13)
  pub nan_corners : (b : BoundingBox) (least most : Float) → verdict_of least most b (replicate 8 nan) ≡ Leaf
  -- a child with -0 at every corner, where it is pruned, is the constant +0 (rule G14)
  pub minus_zeros : (b : BoundingBox) (least most : Float) → let octet = replicate 8 minus_zero in
      pruned least most (lowest octet) (highest octet) (half_diagonal b) ≡ true → verdict_of least most b octet ≡ Constant Active plus_zero
  -- a 0 among sixes becomes 3 in one round with factor 0.5 (rules D7 and D8)
  pub sixes : (vs : List Float) → CentreOfSixes vs → get_or (smoothed (vec3i 3 3 3) half 1 vs) 13 plus_zero ≡ as_float 3
  -- with 2 points along an axis there is no interior, and smoothing leaves all values (rule D7)
  pub dimension_2 : (n : Vec3i) (f : Float) (rounds : ℕ) (vs : List Float) → OfTwo n → length vs ≡ points_of n → smoothed n f rounds vs ≡ vs
  -- padding 4 × 4 × 4 zeros with 1 changes 56 places (rule D6)
  pub padding_56 : count_below 64 (changed zeros64 (padded (vec3i 4 4 4) (as_float 1) zeros64)) ≡ 56
  -- with the limit 1, -1 is left and -0 is made +0 (rule D11)
  pub threshold_1 : (cut (as_float 1) minus_one ≡ minus_one) × (cut (as_float 1) minus_zero ≡ plus_zero)
  -- the root of 4 is 2 (rule F2)
  pub root_4 : square_root (as_float 4) ≡ as_float 2
