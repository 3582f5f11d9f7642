-- A row more, in a slab that is met.
use Rattle.std.proofs.Common.{◌≡◌, ◌*◌, Bool, false, ◌&&◌, List, ℕ, length, replicate, rules, sym, ap, ◌∙◌, arith}
use native.Mathlib.Nat.{zero-mul}
use borrow.Author.Tests.{not-true, not-false}
use Rattle.lists.specs.Flags.{flags_from}
use Rattle.kinds.specs.Inner.Tables.{row_test, slab_test}
use Rattle.lists.proofs.Flags.{flagged_none, flags_none}
use Rattle.kinds.proofs.Parts.{next_long, part_set, parts_set}
use Rattle.kinds.proofs.tables.NodeTables.set_slab.Goals as goal

-- a slab's kinds, by whether it is met
abbrev kinds : ℕ → (xs ys : List Bool) → Bool → List ℕ
kinds n xs ys met = flags_from (λ p. met && slab_test n xs ys p) (n * n) 0

pub returns-then-not-met : goal.returns-then-not-met
returns-then-not-met c =
    let a = c.args in
    let filled : c.fill.new.self ≡ replicate (length a.slab.now) 0 = search rules in
    filled ∙ flags_none (length a.slab.now) 0 ∙ ap (λ (r : ℕ). flags_from (λ _. false) r 0) c.requires
    ∙ ap (kinds a.self.now.n a.self.now.xs a.self.now.ys) (sym (not-true a.met c.if-not-met.true-raw))

pub loop-j-init : goal.loop-j-init
loop-j-init c = rw (zero-mul c.args.self.now.n) (flagged_none (slab_test c.args.self.now.n c.args.self.now.xs c.args.self.now.ys) c.args.slab.now)

pub loop-j-preserved : goal.loop-j-preserved
loop-j-preserved c =
    let a = c.args in
    let test = row_test a.self.now.xs a.self.now.ys in
    part_set a.self.now.n a.self.now.n c.loop-j.j a.slab.now c.requires test c.loop-j.invariant (omega arith)
    (next_long a.self.now.n a.self.now.n c.loop-j.j a.slab.now c.requires test c.loop-j.invariant (omega arith)) c.set_row.ensures

pub returns : goal.returns
returns c =
    let a = c.args in
    parts_set a.self.now.n a.self.now.n c.loop-j.j a.slab.now c.requires (row_test a.self.now.xs a.self.now.ys) c.loop-j.invariant (omega arith) (omega arith)
    ∙ ap (kinds a.self.now.n a.self.now.xs a.self.now.ys) (sym (not-false a.met c.if-not-met.false-raw))
