-- The tables tell the active children.
use Rattle.std.proofs.Common.{◌∙◌}
use Rattle.kinds.proofs.NodeKinds.{node_flags}
use Rattle.kinds.proofs.flags.set_node.Goals as goal

pub returns : goal.returns
returns c = c.set_node.ensures ∙ node_flags c.args.g.grid c.args.v c.of.result c.of.ensures.size c.of.ensures.tests
