-- The parts that are set to one coordinate.
use Rattle.std.proofs.Common.{◌+◌, ap, ◌∙◌, arith}
use lib.Ieee.{Float}
use Rattle.lists.specs.Filled.{filled}
use Rattle.lists.proofs.LentPart.{lent_set}
use Rattle.model.specs.Part.{past}
use Rattle.dense_field.proofs.sampling.fill_stretch.Goals as goal

pub returns : goal.returns
returns c =
    let a = c.args in
    let r = a.points.now in
    let ys =
    lent_set a.at a.count r.ys past (omega arith) c.axis_point-y.result (a.at + a.count) (omega arith) (c.fill.ensures.after (λ y same. same))
    ∙ ap (λ (v : Float). filled a.at a.count (λ q. v) r.ys) c.axis_point-y.ensures in
    let zs =
    lent_set a.at a.count r.zs past (omega arith) c.axis_point-z.result (a.at + a.count) (omega arith) (c.fill-2.ensures.after (λ y same. same))
    ∙ ap (λ (v : Float). filled a.at a.count (λ q. v) r.zs) c.axis_point-z.ensures in
    λ s. record { xs = c.fill_along.ensures s; ys = ys s; zs = zs s }
