-- `floats::bench_dimensions` meets its contract.
use mathlib.Core.Path.{ap, ◌∙◌}
use Rattle.geometry.specs.Box.{dimensions_of}
use Rattle.field_host.specs.Answers.{coordinates}
use Rattle.bench_host.proofs.floats.bench_dimensions.Goals as goal

pub returns : goal.returns
returns c = c.put_point.ensures ∙ ap coordinates (c.dimensions.ensures ∙ ap dimensions_of c.box_of-b.ensures)
