-- The first value, one more, and none left.
use Rattle.std.proofs.Common.{rules, sym, ◌∙◌, ap, List, take, drop, ◌+◌}
use lib.Ieee.{Float, nan}
use Rattle.grid.specs.Pruning.{folded}
use Rattle.grid.proofs.Folds.{fold_begun, fold_next, fold_done}
use Rattle.grid.proofs.pruning.folded.Goals as goal

pub loop-value-init : goal.loop-value-init
loop-value-init g c = fold_begun g.O.Operation.of c.args.octet nan (search rules)

pub loop-value-preserved : goal.loop-value-preserved
loop-value-preserved g c =
    let op = g.O.Operation.of in
    let rest : List Float = take 7 (drop 1 c.args.octet) in
    ap (λ (found : Float). folded op found (drop (c.loop-value.value-index + 1) rest)) c.apply-found.ensures
    ∙ sym (fold_next op rest c.loop-value.value-index nan c.loop-value.found c.loop-value-test.true)
    ∙ c.loop-value.invariant

pub returns : goal.returns
returns g c = sym (fold_done g.O.Operation.of _ c.loop-value.value-index c.loop-value.found c.loop-value-test.false) ∙ c.loop-value.invariant
