-- One lane more, and at the end the whole row.
use Rattle.std.proofs.Common.{◌≡◌, refl, length, arith}
use Rattle.lists.specs.Filled.{filled}
use Rattle.lists.proofs.Filling.{front_store}
use Rattle.model.proofs.Rows.{row_done}
use Rattle.model.proofs.lanes.fill_neg.Goals as goal

pub loop-i-init : goal.loop-i-init
unfolding filled
loop-i-init c = refl

pub loop-i-preserved : goal.loop-i-preserved
loop-i-preserved c = front_store _ _ _ c.loop-i.invariant c.computed.ensures

pub returns : goal.returns
returns c =
    let all : c.loop-i.i ≡ length c.args.row.now = omega arith in
    row_done _ _ c.loop-i.invariant all
