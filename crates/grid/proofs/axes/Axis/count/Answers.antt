-- What the test of a turn counts, and all children at the end.
use Rattle.std.proofs.Common.{◌≡◌, ℕ, refl, ap, ◌∙◌, arith}
use Rattle.lists.specs.Sums.{sum_from, bit}
use Rattle.lists.specs.Ranges.{count_below}
use Rattle.lists.proofs.Sums.{bit_most}
use Rattle.lists.proofs.Ranges.{count_below_le}
use Rattle.grid.specs.Inner.Activity.{axis_active, axis_count}
use Rattle.grid.proofs.ActiveCounts.{axis_met, axis_count_more}
use Rattle.grid.proofs.axes.Axis.count.Goals as goal
use Rattle.grid.proofs.axes.Axis.count.Goals.{After-met-count}

pub loop-c-init : goal.loop-c-init
unfolding sum_from
loop-c-init c = refl

counted : (c : After-met-count) → let a = c.args in c.met-count.result ≡ bit (axis_active a.self.least a.self.most a.self.size a.self.n a.i c.loop-c.c)
counted c =
    let a = c.args in
    axis_met a.self.least a.self.most a.self.size a.self.n a.i c.loop-c.c
    c.node_least-from.ensures c.step_along-step.ensures c.from_count.ensures c.met-count.ensures

pub overflow_add-count : goal.overflow_add-count
overflow_add-count c =
    let l = c.loop-c in
    let a = c.args in
    let one = bit_most (axis_active a.self.least a.self.most a.self.size a.self.n a.i l.c) in
    omega (arith, counted c, count_below_le l.c (axis_active a.self.least a.self.most a.self.size a.self.n a.i), l.invariant, c.well_formed)

pub loop-c-preserved : goal.loop-c-preserved
loop-c-preserved c =
    let l = c.loop-c in
    let a = c.args in
    axis_count_more a.self.least a.self.most a.self.size a.self.n a.i l.c l.invariant (counted c)

pub returns-clause-is : goal.returns-clause-is
unfolding axis_count
returns-clause-is c =
    let l = c.loop-c in
    let a = c.args in
    let all : l.c ≡ a.self.n = omega arith in
    l.invariant ∙ ap (λ (n : ℕ). count_below n (axis_active a.self.least a.self.most a.self.size a.self.n a.i)) all

pub returns-clause-few : goal.returns-clause-few
returns-clause-few c =
    let l = c.loop-c in
    let a = c.args in
    omega (arith, count_below_le l.c (axis_active a.self.least a.self.most a.self.size a.self.n a.i), l.invariant)
