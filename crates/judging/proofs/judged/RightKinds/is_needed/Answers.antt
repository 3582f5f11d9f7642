-- The node's part of the kinds tells the needed corners.
use Rattle.std.proofs.Common.{◌≡◌, ℕ, ◌+◌, ◌*◌, ◌-◌, ◌≤◌, length, ap, ◌∙◌, arith}
use lib.ListN.{drop, length-drop}
use lib.Seq.{length-take-le}
use Rattle.lists.proofs.Flags.{row_below}
use Rattle.grid.specs.Nodes.{nodes_of}
use Rattle.grid.specs.Blocks.{cube}
use Rattle.grid.proofs.LimitLaws.{inner_block}
use Rattle.plans.proofs.NodeKinds.{part_needed}
use Rattle.judging.proofs.judged.RightKinds.is_needed.Goals as goal

pub invariant_of-node : goal.invariant_of-node
invariant_of-node c =
    let s = c.args.self.now in
    let g = s.grid.grid in
    let r = c.node_children-children.result in
    let is : r ≡ cube g.inner = c.node_children-children.ensures.is in
    let v = c.args.v in
    let n = inner_block g s.grid.two in
    let whole : nodes_of g * r ≡ nodes_of g * cube g.inner = ap (λ (x : ℕ). nodes_of g * x) is in
    let room : v * r + r - v * r ≤ length (drop (v * r) s.kinds.now) =
    omega (arith, row_below r v (nodes_of g) c.requires.0, s.long, length-drop (v * r) s.kinds.now) in
    let size : v * r + r - v * r ≡ r = omega arith in
    record { some = omega (arith, n.least); few = n.most; whole = length-take-le _ _ room ∙ size ∙ is }

pub returns : goal.returns
returns c =
    let s = c.args.self.now in
    let g = s.grid.grid in
    let r = c.node_children-children.result in
    let v = c.args.v in
    let size : v * r + r - v * r ≡ r = omega arith in
    c.is_needed.ensures
    ∙ part_needed g _ _ s.kinds.now s.right s.long v c.requires.0 (ap (λ n. v * n) c.node_children-children.ensures.is)
    (size ∙ c.node_children-children.ensures.is) c.args.corner
