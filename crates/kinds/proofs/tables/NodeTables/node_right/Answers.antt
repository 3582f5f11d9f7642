-- A slab more.
use Rattle.std.proofs.Common.{◌*◌, sym, ◌∙◌, arith}
use native.Mathlib.Nat.{zero-mul}
use Rattle.kinds.specs.Inner.Tables.{slabs_test, node_test}
use Rattle.lists.proofs.Flags.{agrees_none}
use Rattle.kinds.proofs.Parts.{of_slabs, part_right, part_wrong, parts_right}
use Rattle.kinds.proofs.tables.NodeTables.node_right.Goals as goal

pub loop-k-init : goal.loop-k-init
loop-k-init c =
    let a = c.args in
    rw (zero-mul (a.self.now.n * a.self.now.n)) (agrees_none (node_test a.self.now.n a.self.now.xs a.self.now.ys a.self.now.zs) a.part.now)

pub returns-then-not-slab_right : goal.returns-then-not-slab_right
returns-then-not-slab_right c =
    let a = c.args in
    part_wrong (a.self.now.n * a.self.now.n) a.self.now.n c.loop-k.k a.part.now (of_slabs a.self.now.n a.part.now c.requires) (slabs_test a.self.now.n a.self.now.xs a.self.now.ys a.self.now.zs) (omega arith)
    (sym c.slab_right.ensures ∙ c.if-not-slab_right.true)

pub loop-k-preserved : goal.loop-k-preserved
loop-k-preserved c =
    let a = c.args in
    part_right (a.self.now.n * a.self.now.n) a.self.now.n c.loop-k.k a.part.now (of_slabs a.self.now.n a.part.now c.requires) (slabs_test a.self.now.n a.self.now.xs a.self.now.ys a.self.now.zs) (omega arith)
    c.loop-k.invariant (sym c.slab_right.ensures ∙ c.if-not-slab_right.false)

pub returns : goal.returns
returns c =
    let a = c.args in
    parts_right (a.self.now.n * a.self.now.n) a.self.now.n c.loop-k.k a.part.now (of_slabs a.self.now.n a.part.now c.requires) (slabs_test a.self.now.n a.self.now.xs a.self.now.ys a.self.now.zs) (omega arith)
    c.loop-k.invariant
