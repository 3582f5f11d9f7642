-- A kind more.
use Rattle.std.proofs.Common.{ap, false}
use Rattle.lists.specs.Flags.{nonzero}
use Rattle.lists.proofs.Flags.{agrees_none, agrees_one, differs_one, agrees_all, nonzero_true}
use borrow.Author.Rules.{rules}
use Rattle.kinds.proofs.agreement.all_zero.Goals as goal

pub loop-i-init : goal.loop-i-init
loop-i-init c = agrees_none _ c.args.kinds.now

pub returns-then-kinds-i-ne0 : goal.returns-then-kinds-i-ne0
returns-then-kinds-i-ne0 c = differs_one (λ _. false) _ _ (search rules) (nonzero_true _ c.if-kinds-i-ne0.true)

pub loop-i-preserved : goal.loop-i-preserved
loop-i-preserved c =
    agrees_one (λ _. false) c.args.kinds.now c.loop-i.i (search rules) c.loop-i.invariant (ap nonzero c.if-kinds-i-ne0.false)

pub returns : goal.returns
returns c = agrees_all (λ _. false) _ c.loop-i.i (search rules) c.loop-i.invariant
