-- One value more.
use Rattle.std.proofs.Common.{◌≡◌, refl, ap, ◌∙◌, length, arith}
use Rattle.rows.specs.Inner.Written.{scattered}
use Rattle.rows.proofs.Writing.{scattered_none, scattered_next, scattered_length}
use Rattle.rows.proofs.corners.scatter.Goals as goal

pub loop-q-init : goal.loop-q-init
loop-q-init c = (refl, scattered_none _ _ _)

pub offset_bounds-corners-place : goal.offset_bounds-corners-place
offset_bounds-corners-place c = omega (arith, c.requires.1 c.loop-q.q (omega arith), c.type_inv)

pub bounds-corners-place : goal.bounds-corners-place
bounds-corners-place c = omega (arith, c.requires.1 c.loop-q.q (omega arith), c.loop-q.invariant.0)

pub loop-q-preserved : goal.loop-q-preserved
loop-q-preserved c =
    let a = c.args in
    let next = scattered_next a.places.now a.values.now a.corners.now c.loop-q.q c.loop-q.invariant.1 in
    (ap length next ∙ scattered_length _ _ _ _, next)

pub returns : goal.returns
returns c =
    let a = c.args in
    let all : c.loop-q.q ≡ length a.places.now = omega arith in
    c.loop-q.invariant.1 ∙ ap (λ q. scattered q a.places.now a.values.now a.corners.now) all
