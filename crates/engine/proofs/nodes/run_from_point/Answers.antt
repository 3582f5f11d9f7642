-- A child's number is small.
use Rattle.std.proofs.Common.{arith}
use Rattle.grid.proofs.BlockLaws.{cube_le}
use Rattle.engine.proofs.nodes.run_from_point.Goals as goal

pub overflow_add-visit : goal.overflow_add-visit
overflow_add-visit c = omega (arith, c.requires.within.0, cube_le 64 c.args.task.now.grid.inner c.args.task.now.sized.inner_most)
