-- One point more, and each is its corner.
use Rattle.std.proofs.Common.{◌≡◌, ℕ, ◌+◌, get_or, ap, ◌∙◌, arith, length}
use Rattle.geometry.specs.declared.Vec3.{Vec3}
use Rattle.geometry.specs.Index.{indices_of}
use Rattle.geometry.specs.PointRow.{with_points}
use Rattle.geometry.proofs.PointRows.{none_set, one_more, same_points}
use Rattle.grid.specs.Inner.Steps.{corner_at}
use Rattle.grid.proofs.Stepped.{corner_stepped}
use Rattle.grid.proofs.points.corner_points.Goals as goal

pub loop-q-init : goal.loop-q-init
loop-q-init c = none_set _ _

pub loop-q-preserved : goal.loop-q-preserved
loop-q-preserved c =
    c.set.ensures ∙ one_more _ c.loop-q.q _ c.loop-q.invariant (c.corner_at.ensures ∙ ap (corner_at _ _) c.indices.ensures)

pub returns : goal.returns
returns c =
    let a = c.args in
    let points : ℕ → Vec3 = λ q. corner_at a.b.min c.corner_step-c.result (indices_of (get_or a.list.now q 0) (a.n + 1) (a.n + 1)) in
    let last : c.loop-q.q ≡ length a.list.now = omega arith in
    c.loop-q.invariant
    ∙ ap (λ n. with_points n points a.row.now) last
    ∙ same_points a.row.now (length a.list.now) points _ (λ q below. corner_stepped a.b a.n (get_or a.list.now q 0) c.corner_step-c.ensures)
