-- THE MEASURED FACTS: all of specs/Measured, as one theorem.
use mathlib.Core.Path.{refl}
use lib.ListN.{replicate}
use lib.Ieee.{nan}
use Rattle.grid.specs.Pruning.{half_diagonal}
use Rattle.grid.proofs.Edge.{edge_is_leaf, nan_is_leaf}
use Rattle.measured.specs.Measured.{Measured}
use Rattle.measured.proofs.Flat.{two_stays}
use Rattle.measured.proofs.Small as small

pub measured : Measured
measured = record {
  blocks_2_2 = small.half_of_two;
  blocks_4_2 = (small.half_of_four, refl, refl);
  bounds_0_0 = small.one_point;
  extent_2 = (small.two_in_one, small.above_two_in_two);
  at_the_edge = λ octet b least most e l. small.kept least most b octet (edge_is_leaf octet b least most e l);
  nan_corners = λ b least most. small.kept least most b (replicate 8 nan) (nan_is_leaf least most (half_diagonal b));
  minus_zeros = small.minus_zeros;
  sixes = small.centre_three;
  dimension_2 = two_stays;
  padding_56 = small.padding_56;
  threshold_1 = (small.minus_one_stays, small.minus_zero_goes);
  root_4 = small.root_of_four;
}
