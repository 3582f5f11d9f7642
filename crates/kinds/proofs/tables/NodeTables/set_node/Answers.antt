-- A slab more.
use Rattle.std.proofs.Common.{◌*◌, ℕ, refl, sym, ap, ◌∙◌, arith}
use native.Mathlib.Nat.{zero-mul, mul_assoc}
use Rattle.kinds.specs.Inner.Tables.{slabs_test, node_test}
use Rattle.lists.specs.Flags.{flags_from}
use Rattle.lists.proofs.Flags.{flagged_none}
use Rattle.kinds.proofs.Parts.{of_slabs, part_set, parts_set}
use Rattle.kinds.proofs.tables.NodeTables.set_node.Goals as goal

pub loop-k-init : goal.loop-k-init
loop-k-init c =
    let a = c.args in
    rw (zero-mul (a.self.now.n * a.self.now.n)) (flagged_none (node_test a.self.now.n a.self.now.xs a.self.now.ys a.self.now.zs) a.part.now)

pub loop-k-preserved : goal.loop-k-preserved
loop-k-preserved c =
    let a = c.args in
    let whole = of_slabs a.self.now.n a.part.now c.requires in
    let test = slabs_test a.self.now.n a.self.now.xs a.self.now.ys a.self.now.zs in
    part_set (a.self.now.n * a.self.now.n) a.self.now.n c.loop-k.k a.part.now whole test c.loop-k.invariant (omega arith) refl c.set_slab.ensures

pub returns : goal.returns
returns c =
    let a = c.args in
    let whole = of_slabs a.self.now.n a.part.now c.requires in
    parts_set (a.self.now.n * a.self.now.n) a.self.now.n c.loop-k.k a.part.now whole (slabs_test a.self.now.n a.self.now.xs a.self.now.ys a.self.now.zs) c.loop-k.invariant (omega arith) (omega arith)
    ∙ ap (λ (r : ℕ). flags_from (node_test a.self.now.n a.self.now.xs a.self.now.ys a.self.now.zs) r 0) (sym (mul_assoc a.self.now.n a.self.now.n a.self.now.n))
