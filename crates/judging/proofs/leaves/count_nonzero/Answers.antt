-- A kind more.
use mathlib.Core.Path.{◌≡◌, refl, ap, ◌∙◌}
use native.Mathlib.Omega.{arith}
use lib.ListN.{length, get_or}
use Rattle.lists.specs.Sums.{sum_from, sum_below, bit}
use Rattle.lists.specs.Flags.{nonzero}
use Rattle.judging.proofs.Judgement.{count_more, count_skip}
use Rattle.judging.proofs.leaves.count_nonzero.Goals as goal
use Rattle.judging.proofs.leaves.count_nonzero.Goals.{then-kinds-i-ne0, else-kinds-i-ne0}

pub loop-i-init : goal.loop-i-init
unfolding sum_from
loop-i-init c = (omega arith, refl)

pub loop-i-preserved : goal.loop-i-preserved
loop-i-preserved c =
    let l = c.args.kinds.now in (
      elim c.if-kinds-i-ne0.branch [ then-kinds-i-ne0 w ↦ omega arith | else-kinds-i-ne0 w ↦ omega arith ],
      elim c.if-kinds-i-ne0.branch [
        | then-kinds-i-ne0 w ↦ count_more l c.loop-i.i c.loop-i.invariant.1 w.if-kinds-i-ne0.true w.count-is
        | else-kinds-i-ne0 w ↦ count_skip l c.loop-i.i c.loop-i.invariant.1 w.if-kinds-i-ne0.false w.count-is
      ],
    )

pub returns : goal.returns
returns c =
    let l = c.loop-i in
    let a = c.args.kinds.now in
    let all : l.i ≡ length a = omega arith in
    l.invariant.1 ∙ ap (sum_below (λ p. bit (nonzero (get_or a p 0)))) all
