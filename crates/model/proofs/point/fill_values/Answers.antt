-- One value more.
use Rattle.std.proofs.Common.{◌∙◌, refl, sym, ap, arith, map, length}
use Rattle.std.proofs.lemmas.List.{get_or-map}
use Rattle.model.specs.Part.{part_in, part_value, placed}
use Rattle.model.specs.Model.{values_to, part_at}
use Rattle.model.specs.declared.Part.{Part}
use Rattle.model.proofs.PartValues.{written_more}
use Rattle.model.proofs.point.fill_values.Goals as goal

pub loop-p-init : goal.loop-p-init
unfolding values_to
loop-p-init c = refl

pub loop-p-preserved : goal.loop-p-preserved
unfolding part_at
loop-p-preserved c =
    let parts = c.args.parts.now in
    let at = c.args.at in
    written_more (map part_in parts) (length parts) at.x at.y at.z c.args.values.now c.loop-p.p (omega arith) (omega arith) c.loop-p.invariant
    (c.part_value.ensures
    ∙ ap (λ (q : Part). part_value (placed c.loop-p.p q) at.x at.y at.z c.loop-p.values) (sym (get_or-map part_in parts c.loop-p.p _ _ (omega arith))))
