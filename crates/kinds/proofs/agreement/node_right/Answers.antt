-- The tables tell the active children.
use Rattle.std.proofs.Common.{◌∙◌}
use Rattle.kinds.proofs.NodeKinds.{node_agrees}
use Rattle.kinds.proofs.agreement.node_right.Goals as goal

pub returns : goal.returns
returns c =
    let a = c.args in
    c.node_right.ensures ∙ node_agrees a.g.grid a.v c.of.result c.of.ensures.size c.of.ensures.tests a.part.now c.requires
