-- One lane more, and at the end the whole row.
use Rattle.std.proofs.Common.{◌≡◌, refl, length, arith, ap, ◌∙◌}
use Rattle.lists.specs.Filled.{filled}
use Rattle.lists.proofs.Filling.{front_store}
use lib.Ieee.{Float, binary64, sub}
use Rattle.model.proofs.Rows.{row_done, own_lane}
use Rattle.model.proofs.lanes.take_radius.Goals as goal

pub loop-i-init : goal.loop-i-init
unfolding filled
loop-i-init c = refl

pub loop-i-preserved : goal.loop-i-preserved
loop-i-preserved c = front_store _ _ _ c.loop-i.invariant (c.computed.ensures ∙ ap (λ (v : Float). sub binary64 v c.args.r) (own_lane c.loop-i.i _ _ c.loop-i.invariant))

pub returns : goal.returns
returns c =
    let all : c.loop-i.i ≡ length c.args.row.now = omega arith in
    row_done _ _ c.loop-i.invariant all
