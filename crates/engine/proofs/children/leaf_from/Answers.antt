-- The next point tells whether it has come through.
use Rattle.std.proofs.Common.{◌≡◌, ◌+◌, ◌-◌, ◌*◌, ap, arith}
use Rattle.grid.specs.Blocks.{cube}
use Rattle.engine.proofs.ChildLaws.{leaf_stopped, leaf_through}
use Rattle.engine.proofs.children.leaf_from.Goals as goal

pub fill_leaf-next-requires : goal.fill_leaf-next-requires
fill_leaf-next-requires c =
    let one : c.args.leaf.leaves - 1 + 1 ≡ c.args.leaf.leaves = omega (arith, c.requires.3) in
    (c.requires.0, c.requires.1, c.requires.2, omega (arith, ap (λ n. n * cube c.args.l) one, c.requires.4))

pub returns-then-next-cube_of-clause-answer : goal.returns-then-next-cube_of-clause-answer
returns-then-next-cube_of-clause-answer c =
    let f = c.args.leaf in
    leaf_stopped f.leaves f.left f.node f.child f.point (cube c.args.l) c.fill_leaf-next.result c.fill_leaf-next.ensures.answer
    (omega (arith, c.cube_of.ensures))

pub returns-else-next-cube_of-clause-answer : goal.returns-else-next-cube_of-clause-answer
returns-else-next-cube_of-clause-answer c =
    let f = c.args.leaf in
    leaf_through f.leaves f.left f.node f.child f.point (cube c.args.l) c.fill_leaf-next.result c.fill_leaf-next.ensures.answer
    (omega (arith, c.cube_of.ensures))
