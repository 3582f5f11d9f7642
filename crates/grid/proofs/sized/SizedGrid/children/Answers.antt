-- The product is that of cause 5.
use Rattle.std.proofs.Common.{◌≡◌, ◌*◌, arith}
use Rattle.grid.specs.Limits.{children_of}
use Rattle.grid.proofs.LimitLaws.{few_children}
use Rattle.grid.proofs.sized.SizedGrid.children.Goals as goal

pub returns-clause-is : goal.returns-clause-is
unfolding children_of
returns-clause-is c =
    let nodes = c.nodes.ensures.is in
    let inside = c.node_children.ensures.is in
    λ t. nodes t * inside t

pub returns-clause-few : goal.returns-clause-few
unfolding children_of
returns-clause-few c =
    let g = c.args.self in
    let whole : c.nodes.result * c.node_children.result ≡ children_of g.grid = λ t. c.nodes.ensures.is t * c.node_children.ensures.is t in
    omega (arith, few_children g.grid g.five, whole)
