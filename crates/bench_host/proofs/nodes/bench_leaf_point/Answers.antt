-- `nodes::bench_leaf_point` meets its contract: nothing is written where l is 0.
use mathlib.Core.Path.{refl, ap, ◌∙◌}
use borrow.Author.Tests.{eq-eqb, ne_eqb}
use Rattle.grid.specs.Leaves.{leaf_point}
use Rattle.field_host.specs.Answers.{coordinates}
use Rattle.bench_host.proofs.nodes.bench_leaf_point.Goals as goal

pub returns-then-l-eq0 : goal.returns-then-l-eq0
returns-then-l-eq0 c = rw (eq-eqb c.args.l 0 c.if-l-eq0.true) refl

pub returns : goal.returns
returns c =
    let a = c.args in
    rw (ne_eqb a.l 0 c.if-l-eq0.false)
    (c.put_point.ensures
    ∙ ap coordinates (c.leaf_point.ensures ∙ ap (λ b. leaf_point b a.l a.p) c.box_of.ensures))
