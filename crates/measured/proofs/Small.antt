-- Small cases of the rules, computed.
use mathlib.Core.Path.{◌≡◌, refl, ◌∙◌}
use mathlib.Core.Bool.{true, false}
use mathlib.Core.List.{List}
use lib.ListN.{get_or, replicate}
use lib.Dec.{lit<}
use lib.Ieee.{Float, binary64, of_bits, of_int, add, sub, mul, div, lt, le, eq, to_unsigned, size, odd}
use Rattle.lists.proofs.Tables.{get_d_tabulate}
use Rattle.root.specs.Nearest.{nearest_root}
use Rattle.root.specs.Root.{square_root, root_of, scale}
use Rattle.float.specs.Sign.{abs_of}
use Rattle.float.specs.Whole.{ceil_of}
use Rattle.float.specs.Zero.{plus_zero}
use Rattle.geometry.specs.declared.Vec3i.{Vec3i}
use Rattle.geometry.specs.declared.BoundingBox.{BoundingBox}
use Rattle.geometry.specs.Values.{vec3i}
use Rattle.geometry.specs.Box.{intersects_of}
use Rattle.geometry.specs.Index.{indices_of, place_of}
use Rattle.geometry.specs.Axis.{as_float, step_along, along, along_end}
use Rattle.geometry.specs.Octet.{octet_order, octet_places}
use Rattle.dense_field.specs.Field.{on_edge, outside}
use Rattle.dense_field.specs.Padding.{padded, padded_at}
use Rattle.dense_field.specs.Threshold.{cut}
use Rattle.dense_field.specs.Smoothing.{neighbour_sum, blended, blended_at, smoothed_at, smoothed_once, smoothed}
use Rattle.lists.specs.Sums.{sum_from}
use Rattle.lists.specs.Tabulate.{tabulate}
use Rattle.lists.specs.Ranges.{any_below, count_below, list_below, among}
use Rattle.grid.specs.declared.Kind.TheVariants.{Active}
use Rattle.grid.specs.declared.Verdict.TheVariants.{Constant, Leaf}
use Rattle.grid.specs.Nodes.{node_size, nodes_along, node_counts, nodes_of}
use Rattle.grid.specs.Counting.{active_in, active_of}
use Rattle.grid.specs.Boxes.{node_least, node_most, node_box_at, node_box, child_box_at, child_box, active}
use Rattle.grid.specs.Corners.{octet, needed, needed_corners}
use Rattle.grid.specs.Pruning.{folded, average, half_diagonal, lowest, highest, pruned, verdict_of}
use Rattle.measured.specs.Measured.{minus_zero, minus_one, half, above_two, cubic, OneNode, zeros64, changed, CentreOfSixes}

-- one node, and what of it is active and needed, computed
pub half_of_two : OneNode (cubic (as_float 1) 2 2) 8 27
unfolding needed_corners list_below needed any_below among octet octet_places octet_order place_of active_of active_in nodes_of sum_from active node_box node_box_at node_least node_most node_size node_counts nodes_along ceil_of child_box child_box_at step_along along along_end indices_of intersects_of of_int add sub mul div le to_unsigned
half_of_two = record { nodes = refl; met = refl; needed = refl }

pub half_of_four : OneNode (cubic (as_float 1) 4 2) 8 27
unfolding needed_corners list_below needed any_below among octet octet_places octet_order place_of active_of active_in nodes_of sum_from active node_box node_box_at node_least node_most node_size node_counts nodes_along ceil_of child_box child_box_at step_along along along_end indices_of intersects_of of_int add sub mul div le to_unsigned
half_of_four = record { nodes = refl; met = refl; needed = refl }

pub one_point : OneNode (cubic (as_float 0) 2 2) 1 8
unfolding needed_corners list_below needed any_below among octet octet_places octet_order place_of active_of active_in nodes_of sum_from active node_box node_box_at node_least node_most node_size node_counts nodes_along ceil_of child_box child_box_at step_along along along_end indices_of intersects_of of_int add sub mul div le to_unsigned
one_point = record { nodes = refl; met = refl; needed = refl }

pub two_in_one : nodes_along (as_float 0) (as_float 2) (as_float 2) ≡ 1
unfolding nodes_along ceil_of of_int sub div to_unsigned
two_in_one = refl

pub above_two_in_two : nodes_along (as_float 0) above_two (as_float 2) ≡ 2
unfolding nodes_along ceil_of of_int of_bits sub div to_unsigned
above_two_in_two = refl

mean_of_minus_zeros : average (replicate 8 minus_zero) ≡ plus_zero
unfolding average folded of_int of_bits add div
mean_of_minus_zeros = refl

pub minus_zeros : (b : BoundingBox) (least most : Float)
    → pruned least most (lowest (replicate 8 minus_zero)) (highest (replicate 8 minus_zero)) (half_diagonal b) ≡ true
    → verdict_of least most b (replicate 8 minus_zero) ≡ Constant Active plus_zero
unfolding verdict_of
minus_zeros b least most h = rw (h, mean_of_minus_zeros) refl

-- what is not pruned is a leaf
pub kept : (least most : Float) (b : BoundingBox) (octet : List Float) → pruned least most (lowest octet) (highest octet) (half_diagonal b) ≡ false
    → verdict_of least most b octet ≡ Leaf
unfolding verdict_of
kept least most b octet h = rw h refl

abbrev threes : Vec3i
threes = vec3i 3 3 3

-- a sum of six, in the rule's order
abbrev sum : (a b c d e f : Float) → Float
sum a b c d e f = add binary64 (add binary64 (add binary64 (add binary64 (add binary64 a b) c) d) e) f

centre_rule : (vs : List Float) → smoothed_at threes half vs 13
    ≡ blended half (get_or vs 13 plus_zero)
    (sum (get_or vs 14 plus_zero) (get_or vs 12 plus_zero) (get_or vs 16 plus_zero) (get_or vs 10 plus_zero) (get_or vs 22 plus_zero) (get_or vs 4 plus_zero))
unfolding smoothed_at blended_at neighbour_sum place_of outside on_edge indices_of
centre_rule vs = refl

sixes : blended half (as_float 0) (sum (as_float 6) (as_float 6) (as_float 6) (as_float 6) (as_float 6) (as_float 6)) ≡ as_float 3
unfolding blended of_int add sub mul div
sixes = refl

pub centre_three : (vs : List Float) → CentreOfSixes vs → get_or (smoothed threes half 1 vs) 13 plus_zero ≡ as_float 3
unfolding smoothed smoothed_once
centre_three vs c =
    get_d_tabulate 27 (smoothed_at threes half vs) 13 plus_zero (lit< tt)
    ∙ centre_rule vs
    ∙ rw (c.centre, c.right, c.left, c.behind, c.before, c.above, c.below) sixes

pub padding_56 : count_below 64 (changed zeros64 (padded (vec3i 4 4 4) (as_float 1) zeros64)) ≡ 56
unfolding sum_from padded padded_at tabulate outside on_edge indices_of eq of_int of_bits
padding_56 = refl

pub minus_one_stays : cut (as_float 1) minus_one ≡ minus_one
unfolding cut abs_of lt of_int
minus_one_stays = refl

pub minus_zero_goes : cut (as_float 1) minus_zero ≡ plus_zero
unfolding cut abs_of lt of_int of_bits
minus_zero_goes = refl

pub root_of_four : square_root (as_float 4) ≡ as_float 2
unfolding square_root root_of scale nearest_root size odd of_int
root_of_four = refl
