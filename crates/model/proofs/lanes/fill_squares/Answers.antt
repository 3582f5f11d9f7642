-- One lane more, and at the end the whole row.
use Rattle.std.proofs.Common.{◌≡◌, refl, length, arith, ap, ◌∙◌}
use Rattle.lists.specs.Filled.{filled}
use Rattle.lists.proofs.Filling.{front_store}
use Rattle.geometry.specs.declared.Vec3.{Vec3}
use Rattle.geometry.specs.Distance.{distance_squared_of}
use Rattle.model.proofs.Rows.{row_done}
use Rattle.model.proofs.lanes.fill_squares.Goals as goal

pub loop-i-init : goal.loop-i-init
unfolding filled
loop-i-init c = refl

pub loop-i-preserved : goal.loop-i-preserved
loop-i-preserved c = front_store _ _ _ c.loop-i.invariant (c.square_distance.ensures ∙ ap (λ (v : Vec3). distance_squared_of c.args.c v.x v.y v.z) c.get.ensures)

pub returns : goal.returns
returns c =
    let all : c.loop-i.i ≡ length c.args.row.now = omega arith in
    row_done _ _ c.loop-i.invariant all
