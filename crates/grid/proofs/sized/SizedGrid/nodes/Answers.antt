-- The nodes are few, by the children that they have.
use Rattle.std.proofs.Common.{arith}
use Rattle.grid.proofs.LimitLaws.{bound_fits}
use Rattle.grid.proofs.sized.SizedGrid.nodes.Goals as goal

pub node_total-requires : goal.node_total-requires
node_total-requires c = let g = c.args.self in omega (arith, (bound_fits g.grid g.two g.five).nodes)

pub returns-clause-few : goal.returns-clause-few
returns-clause-few c = let g = c.args.self in omega (arith, (bound_fits g.grid g.two g.five).nodes, c.node_total.ensures)
