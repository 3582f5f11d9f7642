-- The nodes before this one are done, unless the work has stopped.
use Rattle.std.proofs.Common.{◌≤◌}
use Rattle.grid.specs.Nodes.{nodes_of}
use Rattle.schedule.specs.Lent.{held, SameSlices}
use Rattle.schedule.specs.Resume.{nodes_left}
use Rattle.schedule.specs.Totals.{active_before}
use Rattle.engine.specs.Inner.Progress.{plan}
use Rattle.engine.specs.Inner.Turns.{Continued, NodesReady}
use Rattle.engine.proofs.nodes.run_nodes.Given as goal

abbrev pub invariant-loop-node : goal.invariant-loop-node
invariant-loop-node l =
    let P = plan l.fn.task in
    (l.node ≤ nodes_of l.fn.task.grid)
    × SameSlices l.fn.slices l.slices
    × NodesReady P l.node l.done (held l.slices)
    × Continued P l.fn.so_far (held l.fn.slices) (held l.slices) (nodes_left P l.fn.first) (nodes_left P l.node) l.done (active_before P l.node 0)
