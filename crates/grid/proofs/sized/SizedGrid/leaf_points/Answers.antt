-- A block's cube is small.
use Rattle.std.proofs.Common.{arith}
use Rattle.grid.proofs.LimitLaws.{leaf_block, bound_fits}
use Rattle.grid.proofs.sized.SizedGrid.leaf_points.Goals as goal

pub cube_of-requires : goal.cube_of-requires
cube_of-requires c = let g = c.args.self in omega (arith, (leaf_block g.grid g.two).most)

pub returns-clause-few : goal.returns-clause-few
returns-clause-few c = let g = c.args.self in omega (arith, (bound_fits g.grid g.two g.five).points, c.cube_of.ensures)
