-- The kinds of all nodes, and zeros past them.
use Rattle.std.proofs.Common.{◌≤◌, length, rules, refl, arith}
use Rattle.kinds.proofs.NodeKinds.{all_set}
use Rattle.kinds.proofs.flags.set_kinds.Goals as goal

pub returns : goal.returns
returns c =
    let long : c.children-total.result ≤ length c.args.kinds.now = omega (arith, c.children-total.ensures.is, c.requires) in
    all_set c.args.g.grid c.children-total.result c.children-total.ensures.is c.args.kinds.now c.set_nodes.new.kinds c.fill.new.self long
    c.set_nodes.ensures refl (search rules)
