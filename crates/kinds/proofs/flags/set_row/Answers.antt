-- A kind more, in a row that is met.
use Rattle.std.proofs.Common.{◌≡◌, Bool, ◌&&◌, List, ℕ, length, replicate, rules, refl, sym, ap, ◌∙◌, arith}
use lib.ListN.{set}
use borrow.Author.Tests.{not-true, not-false}
use Rattle.lists.specs.Flags.{flags_from}
use Rattle.kinds.specs.Inner.Tables.{table_test}
use Rattle.lists.proofs.Flags.{flagged_none, flagged_set, flagged_all, flags_none}
use Rattle.kinds.proofs.flags.set_row.Goals as goal

-- a row's kinds, by whether it is met
abbrev kinds : List Bool → ℕ → Bool → List ℕ
kinds xs r met = flags_from (λ i. met && table_test xs i) r 0

pub returns-then-not-met : goal.returns-then-not-met
returns-then-not-met c =
    let r = length c.args.row.now in
    let filled : c.fill.new.self ≡ replicate r 0 = search rules in
    filled ∙ flags_none r 0 ∙ ap (kinds c.args.xs.now r) (sym (not-true c.args.met c.if-not-met.true-raw))

pub loop-i-init : goal.loop-i-init
loop-i-init c = flagged_none _ _

pub loop-i-preserved : goal.loop-i-preserved
loop-i-preserved c =
    ap (λ (x : List ℕ). set x c.loop-i.i c.flag.result) c.loop-i.invariant
    ∙ flagged_set (table_test c.args.xs.now) c.args.row.now c.loop-i.i (omega arith) c.flag.ensures

pub returns : goal.returns
returns c =
    let r = length c.args.row.now in
    let all : c.loop-i.i ≡ r = omega arith in
    c.loop-i.invariant
    ∙ flagged_all (table_test c.args.xs.now) c.args.row.now c.loop-i.i r (omega (arith, all)) refl (omega (arith, all))
    ∙ ap (kinds c.args.xs.now r) (sym (not-false c.args.met c.if-not-met.false-raw))
