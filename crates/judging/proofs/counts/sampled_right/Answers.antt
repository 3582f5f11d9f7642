-- A quotient without a rest is the leaves.
use Rattle.std.proofs.Common.{◌≡◌, ℕ, ◌*◌, ◌%◌, ◌<◌, eqb, ap, ◌∙◌, arith}
use borrow.Author.Tests.{ne_eqb}
use Rattle.grid.specs.declared.sized.SizedGrid.{SizedGrid}
use Rattle.grid.specs.Blocks.{cube}
use Rattle.grid.proofs.BlockLaws.{cube_le}
use Rattle.grid.proofs.LimitLaws.{leaf_block}
use Rattle.judging.proofs.Judgement.{sampled_by, not_sampled}
use Rattle.judging.proofs.counts.sampled_right.Goals as goal

-- a leaf has a point
some : (g : SizedGrid) {points : ℕ} → points ≡ cube g.grid.leaf → 0 < points
some g is = let l = leaf_block g.grid g.two in omega (arith, cube_le g.grid.leaf 2 l.least, is)

pub nonzero_rem-sampled : goal.nonzero_rem-sampled
nonzero_rem-sampled c = some c.args.g c.leaf_points-points.ensures.is

pub nonzero_div-result : goal.nonzero_div-result
nonzero_div-result c = some c.args.g c.leaf_points-points.ensures.is

pub returns-then-sampled-points-eq0 : goal.returns-then-sampled-points-eq0
returns-then-sampled-points-eq0 c =
    let a = c.args in
    let e = c.leaf_points-points.ensures.is in
    sampled_by a.sampled a.leaves c.leaf_points-points.result (some a.g e) c.if-sampled-points-eq0.true ∙ ap (λ (x : ℕ). eqb a.sampled (a.leaves * x)) e

pub returns-else-sampled-points-eq0 : goal.returns-else-sampled-points-eq0
returns-else-sampled-points-eq0 c =
    let a = c.args in
    let e = c.leaf_points-points.ensures.is in
    let none = c.if-sampled-points-eq0.false in
    let other = not_sampled a.sampled a.leaves c.leaf_points-points.result (some a.g e) none in
    ne_eqb (a.sampled % c.leaf_points-points.result) 0 none ∙ other ∙ ap (λ (x : ℕ). eqb a.sampled (a.leaves * x)) e
