-- `nodes::bench_child_box` meets its contract: nothing is written where n is 0.
use mathlib.Core.Path.{refl, ap, ◌∙◌}
use borrow.Author.Tests.{eq-eqb, ne_eqb}
use Rattle.grid.specs.Boxes.{child_box}
use Rattle.field_host.specs.Answers.{ends}
use Rattle.bench_host.proofs.nodes.bench_child_box.Goals as goal

pub returns-then-n-eq0 : goal.returns-then-n-eq0
returns-then-n-eq0 c = rw (eq-eqb c.args.n 0 c.if-n-eq0.true) refl

pub returns : goal.returns
returns c =
    let a = c.args in
    rw (ne_eqb a.n 0 c.if-n-eq0.false)
    (c.put_box.ensures ∙ ap ends (c.child_box.ensures ∙ ap (λ b. child_box b a.n a.c) c.box_of.ensures))
