-- `nodes::bench_half_diagonal` meets its contract.
use mathlib.Core.Path.{ap, ◌∙◌}
use Rattle.grid.specs.Pruning.{half_diagonal}
use Rattle.bench_host.proofs.nodes.bench_half_diagonal.Goals as goal

pub returns : goal.returns
returns c = c.half_diagonal.ensures ∙ ap half_diagonal c.box_of.ensures
