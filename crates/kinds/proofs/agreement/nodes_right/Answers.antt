-- A node more.
use Rattle.std.proofs.Common.{sym, ap, ◌∙◌, arith}
use native.Mathlib.Nat.{zero-mul}
use Rattle.grid.specs.Boxes.{active}
use Rattle.lists.specs.Flags.{agrees_from, in_rows}
use Rattle.lists.proofs.Flags.{agrees_none}
use Rattle.kinds.proofs.Parts.{of_nodes, part_inside, part_long, part_right, part_wrong, parts_right}
use Rattle.kinds.proofs.agreement.nodes_right.Goals as goal

pub loop-v-init : goal.loop-v-init
loop-v-init c =
    let n = c.node_children-children.result in
    rw (zero-mul n) (agrees_none (in_rows n (active c.args.g.grid)) c.args.kinds.now)

pub overflow_mul-from : goal.overflow_mul-from
overflow_mul-from c =
    let whole = of_nodes c.args.g.grid c.args.kinds.now c.nodes-nodes.ensures.is c.node_children-children.ensures.is c.requires in
    omega (arith, part_inside c.node_children-children.result c.nodes-nodes.result c.loop-v.v c.args.kinds.now whole (omega arith))

pub overflow_add-to : goal.overflow_add-to
overflow_add-to c =
    let whole = of_nodes c.args.g.grid c.args.kinds.now c.nodes-nodes.ensures.is c.node_children-children.ensures.is c.requires in
    omega (arith, part_inside c.node_children-children.result c.nodes-nodes.result c.loop-v.v c.args.kinds.now whole (omega arith))

pub slice_bounds-node_right-end : goal.slice_bounds-node_right-end
slice_bounds-node_right-end c =
    let whole = of_nodes c.args.g.grid c.args.kinds.now c.nodes-nodes.ensures.is c.node_children-children.ensures.is c.requires in
    omega (arith, part_inside c.node_children-children.result c.nodes-nodes.result c.loop-v.v c.args.kinds.now whole (omega arith))

pub node_right-requires : goal.node_right-requires
node_right-requires c =
    let whole = of_nodes c.args.g.grid c.args.kinds.now c.nodes-nodes.ensures.is c.node_children-children.ensures.is c.requires in
    part_long c.node_children-children.result c.nodes-nodes.result c.loop-v.v c.args.kinds.now whole (omega arith) ∙ c.node_children-children.ensures.is

pub returns-then-not-node_right : goal.returns-then-not-node_right
returns-then-not-node_right c =
    let whole = of_nodes c.args.g.grid c.args.kinds.now c.nodes-nodes.ensures.is c.node_children-children.ensures.is c.requires in
    part_wrong c.node_children-children.result c.nodes-nodes.result c.loop-v.v c.args.kinds.now whole (active c.args.g.grid) (omega arith) (sym c.node_right.ensures ∙ c.if-not-node_right.true)
    ∙ ap (λ n. agrees_from (in_rows n (active c.args.g.grid)) 0 c.args.kinds.now) c.node_children-children.ensures.is

pub loop-v-preserved : goal.loop-v-preserved
loop-v-preserved c =
    let whole = of_nodes c.args.g.grid c.args.kinds.now c.nodes-nodes.ensures.is c.node_children-children.ensures.is c.requires in
    part_right c.node_children-children.result c.nodes-nodes.result c.loop-v.v c.args.kinds.now whole (active c.args.g.grid) (omega arith) c.loop-v.invariant (sym c.node_right.ensures ∙ c.if-not-node_right.false)

pub returns : goal.returns
returns c =
    let whole = of_nodes c.args.g.grid c.args.kinds.now c.nodes-nodes.ensures.is c.node_children-children.ensures.is c.requires in
    parts_right c.node_children-children.result c.nodes-nodes.result c.loop-v.v c.args.kinds.now whole (active c.args.g.grid) (omega arith) c.loop-v.invariant
    ∙ ap (λ n. agrees_from (in_rows n (active c.args.g.grid)) 0 c.args.kinds.now) c.node_children-children.ensures.is
