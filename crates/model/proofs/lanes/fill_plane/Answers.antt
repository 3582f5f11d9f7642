-- One lane more, and at the end the whole row.
use Rattle.std.proofs.Common.{◌≡◌, refl, length, arith, ap, ◌∙◌}
use Rattle.lists.specs.Filled.{filled}
use Rattle.lists.proofs.Filling.{front_store}
use Rattle.geometry.specs.declared.Vec3.{Vec3}
use Rattle.model.specs.Part.{plane_value}
use Rattle.model.proofs.Rows.{row_done}
use Rattle.model.proofs.lanes.fill_plane.Goals as goal

pub loop-i-init : goal.loop-i-init
unfolding filled
loop-i-init c = refl

pub loop-i-preserved : goal.loop-i-preserved
loop-i-preserved c = front_store _ _ _ c.loop-i.invariant (c.plane_value.ensures ∙ ap (λ (v : Vec3). plane_value c.args.normal c.args.offset v.x v.y v.z) c.get.ensures)

pub returns : goal.returns
returns c =
    let all : c.loop-i.i ≡ length c.args.row.now = omega arith in
    row_done _ _ c.loop-i.invariant all
