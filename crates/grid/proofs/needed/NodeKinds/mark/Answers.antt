-- One row more.
use Rattle.std.proofs.Common.{◌≡◌, ℕ, ◌+◌, ◌*◌, refl, ◌∙◌, subst, zero-mul, arith}
use Rattle.grid.specs.Inner.CornerMarks.{Marks}
use Rattle.grid.proofs.needed.NodeKinds.mark.Goals as goal

pub loop-row-init : goal.loop-row-init
loop-row-init c = (refl, rw zero-mul c.requires)

pub mark_row-requires : goal.mark_row-requires
mark_row-requires c =
    (omega arith, c.loop-row.invariant.1)

pub loop-row-preserved : goal.loop-row-preserved
loop-row-preserved c =
    let a = c.args in
    let r = c.loop-row.row in
    let next : r * a.self.now.n + a.self.now.n ≡ (r + 1) * a.self.now.n = omega arith in
    let done = c.mark_row.ensures in
    (done.0 ∙ c.loop-row.invariant.0, subst (λ (x : ℕ). Marks a.self.now.n a.self.now.kinds.now x c.mark_row.new.list) next done.1)

pub returns : goal.returns
returns c =
    let l = c.loop-row in
    let a = c.args in
    let all : l.row ≡ a.self.now.n * a.self.now.n = omega arith in
    (l.invariant.0, subst (λ (r : ℕ). Marks a.self.now.n a.self.now.kinds.now (r * a.self.now.n) l.list) all l.invariant.1)
