-- The grid's counts, then the sampled points.
use Rattle.std.proofs.Common.{sym, ap, ◌∙◌}
use Rattle.judging.proofs.Judgement.{same_grid, counts_other, counts_sampled}
use Rattle.judging.proofs.counts.counts_right.Goals as goal

pub returns-then-eq : goal.returns-then-eq
returns-then-eq c =
    let a = c.args in
    counts_sampled a.g.grid a.counts (ap (same_grid a.counts.grid) (sym c.counts.ensures) ∙ sym c.eq.ensures ∙ c.if-eq.true) c.sampled_right.ensures

pub returns-else-eq : goal.returns-else-eq
returns-else-eq c =
    let a = c.args in
    let other = ap (same_grid a.counts.grid) (sym c.counts.ensures) ∙ sym c.eq.ensures ∙ c.if-eq.false in
    c.if-eq.false ∙ counts_other a.g.grid a.counts other
