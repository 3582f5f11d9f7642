-- The code's constants are the definition's, and a store at each turn makes the stretch one longer.
use Rattle.std.proofs.Common.{◌+◌, sym, ap, ◌∙◌, arith, rules}
use lib.Ieee.{Float, binary64, sub}
use Rattle.lists.proofs.Filling.{filled_none, filled_store_lem}
use Rattle.dense_field.proofs.SmoothingLaws.{one_as_float, blended_read}
use Rattle.dense_field.proofs.smoothing.Round.blend_values.Goals as goal

pub loop-i-init : goal.loop-i-init
loop-i-init c = (search rules, ap (λ (x : Float). sub binary64 x c.args.self.now.factor) one_as_float, sym (filled_none _ _ _))

pub loop-i-preserved : goal.loop-i-preserved
loop-i-preserved c =
    let a = c.args in
    let value =
    c.computed.ensures
    ∙ blended_read a.self.now.n a.self.now.factor a.self.now.old.now (a.at + c.loop-i.i) (omega arith) c.loop-i.invariant.1 c.neighbour_sum-sum.ensures in
    (search rules, search rules, filled_store_lem _ _ _ _ c.loop-i.invariant.2 value)
