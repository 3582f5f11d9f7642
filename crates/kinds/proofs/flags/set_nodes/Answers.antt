-- A node more.
use Rattle.std.proofs.Common.{◌*◌, sym, ◌∙◌, arith}
use native.Mathlib.Nat.{zero-mul}
use Rattle.grid.specs.Boxes.{active}
use Rattle.grid.specs.Limits.{children_of}
use Rattle.lists.specs.Flags.{flags_from, in_rows}
use Rattle.lists.proofs.Flags.{flagged_none}
use Rattle.kinds.proofs.Parts.{of_nodes, part_inside, kept_length, next_long, part_set, parts_set}
use Rattle.kinds.proofs.flags.set_nodes.Goals as goal

pub loop-v-init : goal.loop-v-init
loop-v-init c =
    let n = c.node_children-children.result in
    rw (zero-mul n) (flagged_none (in_rows n (active c.args.g.grid)) c.args.kinds.now)

pub overflow_mul-from : goal.overflow_mul-from
overflow_mul-from c =
    let whole = of_nodes c.args.g.grid c.args.kinds.now c.nodes-nodes.ensures.is c.node_children-children.ensures.is c.requires in
    omega (arith, part_inside c.node_children-children.result c.nodes-nodes.result c.loop-v.v c.args.kinds.now whole (omega arith))

pub overflow_add-to : goal.overflow_add-to
overflow_add-to c =
    let whole = of_nodes c.args.g.grid c.args.kinds.now c.nodes-nodes.ensures.is c.node_children-children.ensures.is c.requires in
    omega (arith, part_inside c.node_children-children.result c.nodes-nodes.result c.loop-v.v c.args.kinds.now whole (omega arith))

pub slice_bounds-set_node-end : goal.slice_bounds-set_node-end
slice_bounds-set_node-end c =
    let whole = of_nodes c.args.g.grid c.args.kinds.now c.nodes-nodes.ensures.is c.node_children-children.ensures.is c.requires in
    omega (arith, part_inside c.node_children-children.result c.nodes-nodes.result c.loop-v.v c.args.kinds.now whole (omega arith), kept_length c.node_children-children.result c.nodes-nodes.result c.loop-v.v c.args.kinds.now whole (active c.args.g.grid) c.loop-v.invariant (omega arith))

pub set_node-requires : goal.set_node-requires
set_node-requires c =
    let whole = of_nodes c.args.g.grid c.args.kinds.now c.nodes-nodes.ensures.is c.node_children-children.ensures.is c.requires in
    next_long c.node_children-children.result c.nodes-nodes.result c.loop-v.v c.args.kinds.now whole (active c.args.g.grid) c.loop-v.invariant (omega arith) ∙ c.node_children-children.ensures.is

pub loop-v-preserved : goal.loop-v-preserved
loop-v-preserved c =
    let whole = of_nodes c.args.g.grid c.args.kinds.now c.nodes-nodes.ensures.is c.node_children-children.ensures.is c.requires in
    part_set c.node_children-children.result c.nodes-nodes.result c.loop-v.v c.args.kinds.now whole (active c.args.g.grid) c.loop-v.invariant (omega arith) (sym c.node_children-children.ensures.is) c.set_node.ensures

pub returns : goal.returns
unfolding children_of
returns c =
    let whole = of_nodes c.args.g.grid c.args.kinds.now c.nodes-nodes.ensures.is c.node_children-children.ensures.is c.requires in
    parts_set c.node_children-children.result c.nodes-nodes.result c.loop-v.v c.args.kinds.now whole (active c.args.g.grid) c.loop-v.invariant (omega arith) (omega arith)
    ∙ (λ t. flags_from (in_rows (c.node_children-children.ensures.is t) (active c.args.g.grid)) (c.nodes-nodes.ensures.is t * c.node_children-children.ensures.is t) 0)
