-- The kinds of all nodes, and zeros past them.
use Rattle.std.proofs.Common.{◌≤◌, length, sym, ◌∙◌, arith}
use Rattle.kinds.proofs.NodeKinds.{all_differ, all_agree}
use Rattle.kinds.proofs.agreement.kinds_right.Goals as goal

pub returns-then-not-nodes_right : goal.returns-then-not-nodes_right
returns-then-not-nodes_right c =
    let long : c.children-total.result ≤ length c.args.kinds.now = omega (arith, c.children-total.ensures.is, c.requires) in
    all_differ c.args.g.grid c.children-total.result c.children-total.ensures.is c.args.kinds.now long (sym c.nodes_right.ensures ∙ c.if-not-nodes_right.true)

pub returns : goal.returns
returns c =
    let long : c.children-total.result ≤ length c.args.kinds.now = omega (arith, c.children-total.ensures.is, c.requires) in
    c.all_zero.ensures
    ∙ all_agree c.args.g.grid c.children-total.result c.children-total.ensures.is c.args.kinds.now long (sym c.nodes_right.ensures ∙ c.if-not-nodes_right.false)
