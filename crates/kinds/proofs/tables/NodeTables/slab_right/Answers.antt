-- A row more, in a slab that is met.
use Rattle.std.proofs.Common.{Bool, ◌&&◌, sym, ap, ◌∙◌, arith, List, ℕ}
use native.Mathlib.Nat.{zero-mul}
use borrow.Author.Tests.{not-true, not-false}
use Rattle.lists.specs.Flags.{agrees_from}
use Rattle.kinds.specs.Inner.Tables.{row_test, slab_test}
use Rattle.lists.proofs.Flags.{agrees_none}
use Rattle.kinds.proofs.Parts.{part_right, part_wrong, parts_right}
use Rattle.kinds.proofs.tables.NodeTables.slab_right.Goals as goal

-- whether a slab is right, by whether it is met
abbrev right : ℕ → (xs ys : List Bool) → List ℕ → Bool → Bool
right n xs ys slab met = agrees_from (λ p. met && slab_test n xs ys p) 0 slab

pub returns-then-not-met : goal.returns-then-not-met
returns-then-not-met c = c.all_zero.ensures ∙ ap (right c.args.self.now.n c.args.self.now.xs c.args.self.now.ys c.args.slab.now) (sym (not-true c.args.met c.if-not-met.true-raw))

pub loop-j-init : goal.loop-j-init
loop-j-init c = rw (zero-mul c.args.self.now.n) (agrees_none (slab_test c.args.self.now.n c.args.self.now.xs c.args.self.now.ys) c.args.slab.now)

pub returns-then-not-row_right : goal.returns-then-not-row_right
returns-then-not-row_right c =
    let a = c.args in
    part_wrong a.self.now.n a.self.now.n c.loop-j.j a.slab.now c.requires (row_test a.self.now.xs a.self.now.ys) (omega arith) (sym c.row_right.ensures ∙ c.if-not-row_right.true)
    ∙ ap (right a.self.now.n a.self.now.xs a.self.now.ys a.slab.now) (sym (not-false a.met c.if-not-met.false-raw))

pub loop-j-preserved : goal.loop-j-preserved
loop-j-preserved c =
    let a = c.args in
    part_right a.self.now.n a.self.now.n c.loop-j.j a.slab.now c.requires (row_test a.self.now.xs a.self.now.ys) (omega arith) c.loop-j.invariant
    (sym c.row_right.ensures ∙ c.if-not-row_right.false)

pub returns : goal.returns
returns c =
    let a = c.args in
    parts_right a.self.now.n a.self.now.n c.loop-j.j a.slab.now c.requires (row_test a.self.now.xs a.self.now.ys) (omega arith) c.loop-j.invariant
    ∙ ap (right a.self.now.n a.self.now.xs a.self.now.ys a.slab.now) (sym (not-false a.met c.if-not-met.false-raw))
