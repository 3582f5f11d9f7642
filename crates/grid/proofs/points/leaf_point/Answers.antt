-- `leaf_point` meets its contract.
use Rattle.std.proofs.Common.{ap, ◌∙◌}
use Rattle.grid.proofs.Stepped.{leaf_stepped}
use Rattle.grid.specs.Inner.Steps.{stepped_point}
use Rattle.grid.proofs.points.leaf_point.Goals as goal

pub returns : goal.returns
returns c = c.stepped_point.ensures ∙ ap (stepped_point _ _) c.indices.ensures ∙ leaf_stepped _ _ _ c.leaf_steps.ensures
