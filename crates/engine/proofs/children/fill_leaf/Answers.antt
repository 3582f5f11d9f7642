-- What is filled in the leaf's stretch is filled in the store.
use Rattle.std.proofs.Common.{ℕ, ◌≡◌, ◌+◌, ◌-◌, ◌*◌, ◌≤◌, min, Float, length, ap, ◌∙◌, arith}
use Rattle.grid.specs.Blocks.{cube}
use Rattle.grid.specs.Leaves.{leaf_point}
use Rattle.geometry.specs.Values.{at}
use Rattle.lists.specs.Filled.{filled}
use Rattle.rows.specs.Inner.ModelValue.{model_at}
use Rattle.engine.proofs.Stretch.{stretch_filled}
use Rattle.engine.proofs.children.fill_leaf.Goals as goal

pub returns-clause-store : goal.returns-clause-store
returns-clause-store c =
    let a = c.args in
    let k = c.cube_of-points.result in
    let e : k ≡ cube a.l = c.cube_of-points.ensures in
    let from = a.ordinal * k in
    let f : ℕ → Float = λ q. at (model_at a.model.now) (leaf_point a.b a.l q) in
    let made = min a.budget (cube a.l - a.p) in
    let inside : from + k ≤ length a.store.now = omega (arith, e, ap (λ n. a.ordinal * n) e, c.requires.3) in
    stretch_filled from (from + k - from) a.p made f a.store.now (omega (arith, inside)) (omega (arith, e, c.requires.2)) c.fill_points.ensures.stretch
    ∙ ap (λ k. filled (a.ordinal * k + a.p) made (λ q. f (q - a.ordinal * k)) a.store.now) e
