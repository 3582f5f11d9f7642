-- The nodes passed so far are counted.
use Rattle.std.proofs.Common.{◌≡◌, refl, ap, ◌∙◌, arith}
use Rattle.lists.specs.Sums.{sum_from}
use Rattle.grid.specs.Inner.Activity.{axis_total}
use Rattle.grid.proofs.ActiveCounts.{axis_count_le, total_few, axis_total_more}
use Rattle.grid.proofs.axes.Axis.total.Goals as goal

pub loop-i-init : goal.loop-i-init
unfolding axis_total sum_from
loop-i-init c = refl

pub overflow_add-total : goal.overflow_add-total
overflow_add-total c =
    let l = c.loop-i in
    let a = c.args in
    let p = c.requires in
    let few = total_few a.self.least a.self.most a.self.size a.self.n p.0 l.i (omega arith) l.invariant in
    omega (arith, axis_count_le a.self.least a.self.most a.self.size a.self.n l.i, c.count-total.ensures.is, p.0)

pub loop-i-preserved : goal.loop-i-preserved
loop-i-preserved c =
    let l = c.loop-i in
    let a = c.args in
    axis_total_more a.self.least a.self.most a.self.size a.self.n l.i l.invariant c.count-total.ensures.is

pub returns-clause-is : goal.returns-clause-is
returns-clause-is c =
    let l = c.loop-i in
    let a = c.args in
    let all : l.i ≡ a.nodes = omega arith in
    l.invariant ∙ ap (axis_total a.self.least a.self.most a.self.size a.self.n) all

pub returns-clause-few : goal.returns-clause-few
returns-clause-few c =
    let l = c.loop-i in
    let a = c.args in
    let p = c.requires in
    total_few a.self.least a.self.most a.self.size a.self.n p.0 l.i (omega arith) l.invariant
