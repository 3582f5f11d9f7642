-- A store at each turn makes the stretch one longer.
use Rattle.std.proofs.Common.{◌≡◌, ℕ, ◌+◌, ◌-◌, length, sym, ap, ◌∙◌, arith, rules}
use lib.Ieee.{Float}
use Rattle.lists.proofs.Filling.{filled_none, filled_length, filled_store_lem, filled_done}
use Rattle.dense_field.specs.Inner.Runs.{axis_point}
use Rattle.dense_field.proofs.sampling.fill_along.Goals as goal

pub loop-t-init : goal.loop-t-init
loop-t-init c = (search rules, sym (filled_none _ _ _))

pub loop-t-preserved : goal.loop-t-preserved
loop-t-preserved c =
    let s = c.loop-t in
    let a = c.args in
    let g : ℕ → Float = λ q. axis_point a.origin a.cell (a.from + (q - a.at)) in
    let here : a.from + s.t ≡ a.from + (a.at + s.t - a.at) = omega arith in
    let next = filled_store_lem a.at s.t g a.places.now s.invariant.1 (c.axis_point.ensures ∙ ap (axis_point a.origin a.cell) here) in
    (ap length next ∙ filled_length _ _ _ _, next)

pub returns : goal.returns
returns c = filled_done _ _ _ c.loop-t.invariant.1 (omega arith)
