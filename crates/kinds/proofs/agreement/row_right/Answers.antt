-- A kind more, in a row that is met.
use Rattle.std.proofs.Common.{Bool, ◌&&◌, get_or, sym, ap, ◌∙◌, arith}
use borrow.Author.Tests.{not-true, not-false}
use Rattle.lists.specs.Flags.{agrees_from}
use Rattle.kinds.specs.Inner.Tables.{table_test}
use Rattle.lists.proofs.Flags.{agrees_none, agrees_one, differs_one, agrees_all, compared_same, compared_other}
use Rattle.kinds.proofs.agreement.row_right.Goals as goal

pub returns-then-not-met : goal.returns-then-not-met
returns-then-not-met c =
    c.all_zero.ensures
    ∙ ap (λ (b : Bool). agrees_from (λ i. b && table_test c.args.xs.now i) 0 c.args.row.now) (sym (not-true c.args.met c.if-not-met.true-raw))

pub loop-i-init : goal.loop-i-init
loop-i-init c = agrees_none (table_test c.args.xs.now) c.args.row.now

pub returns-then-row-i : goal.returns-then-row-i
returns-then-row-i c =
    differs_one (table_test c.args.xs.now) c.args.row.now c.loop-i.i (omega arith)
    (compared_other (get_or c.args.row.now c.loop-i.i 0) (table_test c.args.xs.now c.loop-i.i) c.if-row-i.true)
    ∙ ap (λ (b : Bool). agrees_from (λ i. b && table_test c.args.xs.now i) 0 c.args.row.now) (sym (not-false c.args.met c.if-not-met.false-raw))

pub loop-i-preserved : goal.loop-i-preserved
loop-i-preserved c =
    agrees_one (table_test c.args.xs.now) c.args.row.now c.loop-i.i (omega arith) c.loop-i.invariant
    (compared_same (get_or c.args.row.now c.loop-i.i 0) (table_test c.args.xs.now c.loop-i.i) c.if-row-i.false)

pub returns : goal.returns
returns c =
    agrees_all (table_test c.args.xs.now) c.args.row.now c.loop-i.i (omega arith) c.loop-i.invariant
    ∙ ap (λ (b : Bool). agrees_from (λ i. b && table_test c.args.xs.now i) 0 c.args.row.now) (sym (not-false c.args.met c.if-not-met.false-raw))
