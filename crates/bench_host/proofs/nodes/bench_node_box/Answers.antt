-- `nodes::bench_node_box` meets its contract.
use mathlib.Core.Path.{ap, ◌∙◌}
use Rattle.grid.specs.Boxes.{node_box}
use Rattle.field_host.specs.Answers.{ends}
use Rattle.field_host.specs.Given.{grid_given}
use Rattle.bench_host.proofs.nodes.bench_node_box.Goals as goal

pub returns : goal.returns
returns c =
    let a = c.args in
    c.put_box.ensures
    ∙ ap ends (c.node_box.ensures
    ∙ ap (λ b. node_box (grid_given b a.cell a.inner a.leaf) a.v) c.box_of.ensures)
