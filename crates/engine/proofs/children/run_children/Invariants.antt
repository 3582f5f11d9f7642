-- The children before this one have had their turn, and the work has come through.
use Rattle.std.proofs.Common.{◌≡◌, ◌≤◌}
use Rattle.std.specs.Prelude.{None}
use Rattle.grid.specs.Blocks.{cube}
use Rattle.schedule.specs.Lent.{held, SameSlices}
use Rattle.engine.specs.Inner.Progress.{plan, ChildrenAdvanced}
use Rattle.engine.proofs.children.run_children.Given as goal

abbrev pub invariant-loop-place : goal.invariant-loop-place
invariant-loop-place l =
    (l.done.stop ≡ None)
    × (l.place ≤ cube l.fn.task.grid.inner)
    × SameSlices l.fn.slices l.slices
    × ((held l.slices).corners ≡ (held l.fn.slices).corners)
    × ChildrenAdvanced (plan l.fn.task) l.fn.visit.node l.fn.visit.place l.place l.fn.visit.left l.fn.visit.leaves
    (held l.fn.slices) (held l.slices) l.done
