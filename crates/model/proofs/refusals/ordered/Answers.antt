-- One part more, or one that is not in order.
use Rattle.std.proofs.Common.{rules, refl, sym, ap, ◌∙◌, add-one, arith}
use Rattle.std.proofs.lemmas.List.{get_or-map}
use Rattle.model.specs.Part.{part_in, inputs_below}
use Rattle.model.specs.Model.{ordered_to}
use Rattle.model.proofs.InOrder.{unordered}
use Rattle.model.proofs.refusals.ordered.Goals as goal

pub loop-p-init : goal.loop-p-init
unfolding ordered_to
loop-p-init c = refl

pub returns-then-not-inputs_below : goal.returns-then-not-inputs_below
returns-then-not-inputs_below c =
    let p = c.loop-p.p in
    sym (unordered _ p _ (omega arith) (ap (inputs_below p) (get_or-map part_in c.args.parts.now p _ _ (omega arith)) ∙ sym c.inputs_below.ensures ∙ search rules))

pub loop-p-preserved : goal.loop-p-preserved
unfolding ordered_to
loop-p-preserved c =
    let p = c.loop-p.p in
    rw (add-one p)
    (rw c.loop-p.invariant (ap (inputs_below p) (get_or-map part_in c.args.parts.now p _ _ (omega arith)) ∙ sym c.inputs_below.ensures ∙ search rules))
