-- `nodes::bench_corner_point` meets its contract.
use mathlib.Core.Path.{ap, ◌∙◌}
use Rattle.grid.specs.Corners.{corner_point}
use Rattle.field_host.specs.Answers.{coordinates}
use Rattle.bench_host.proofs.nodes.bench_corner_point.Goals as goal

pub returns : goal.returns
returns c =
    let a = c.args in
    c.put_point.ensures
    ∙ ap coordinates (c.corner_point.ensures ∙ ap (λ b. corner_point b a.n a.corner) c.box_of.ensures)
