-- A plan of a grid alone, for what looks at nothing but the grid: nodes, children, corners and points, which children are active, and which
-- corners are needed.
use Rattle.float.specs.Zero.{plus_zero}
use Rattle.grid.specs.declared.Grid.{Grid}
use Rattle.grid.specs.declared.Verdict.TheVariants.{Leaf}
use Rattle.schedule.specs.Plan.{Plan}
use Rattle.plans.specs.Plan.{plan_with}

abbrev pub grid_plan : Grid → Plan
grid_plan g = plan_with g (λ b octet. Leaf) (λ x y z. plus_zero)
