-- The next node begins where the one before has come through.
use Rattle.std.proofs.Common.{◌≡◌, ◌+◌, ◌<◌, suc, sym, subst, arith}
use native.Mathlib.Numerals.{add-one}
use Rattle.schedule.specs.Lent.{held}
use Rattle.schedule.specs.Resume.{nodes_left}
use Rattle.schedule.specs.Totals.{active_before}
use Rattle.plans.specs.Plan.{plan_with}
use Rattle.engine.specs.Inner.Progress.{plan, ZeroCorners}
use Rattle.engine.specs.Inner.Turns.{NodesReady, Continued}
use Rattle.engine.proofs.Turns.{same_then, none_stop, came_through}
use Rattle.engine.proofs.NodeLaws.{nodes_few, node_ready, continued_node, continued_end}
use Rattle.engine.proofs.nodes.run_nodes.Goals as goal

pub node_total-node-end-requires : goal.node_total-node-end-requires
node_total-node-end-requires c = omega (arith, nodes_few c.args.task.now.grid c.args.task.now.sized)

pub run_from_corner-done-requires-clause-ready : goal.run_from_corner-done-requires-clause-ready
unfolding plan_with
run_from_corner-done-requires-clause-ready c =
    let l = c.loop-node in
    let ready = l.invariant.2 in
    record {
      lent = ready.lent;
      node = omega (arith, c.loop-node-test.true, c.node_total-node-end.ensures);
      at_most = came_through _ ready.at_most (none_stop (sym c.if-is_some.ensures));
    }

pub run_from_corner-done-requires-clause-clean : goal.run_from_corner-done-requires-clause-clean
unfolding plan_with
run_from_corner-done-requires-clause-clean c =
    let l = c.loop-node in
    let ready = l.invariant.2 in
    let own = c.cube_of-own.ensures in (
      omega (arith, own),
      record {
        within = omega (arith, own, ready.lent.corners);
        zero = λ i behind. came_through (ZeroCorners (held l.slices)) ready.cleared (none_stop (sym c.if-is_some.ensures)) i;
      },
    )

pub loop-node-preserved : goal.loop-node-preserved
unfolding plan_with
loop-node-preserved c =
    let l = c.loop-node in
    let P = plan c.args.task.now in
    let now = held c.run_from_corner-done.new.slices in
    let done = c.run_from_corner-done in
    let through = none_stop (sym c.if-is_some.ensures) in
    let below : l.node < P.nodes = omega (arith, c.loop-node-test.true, c.node_total-node-end.ensures) in
    let cleared = came_through (ZeroCorners (held l.slices)) l.invariant.2.cleared through in
    let next : suc l.node ≡ l.node + 1 = sym (add-one l.node) in
    let ready = subst (λ n. NodesReady P n done.result now) next (node_ready P l.node _ _ done.ensures.node) in
    let so = subst (λ n. Continued P c.args.so_far (held c.args.slices.now) now (nodes_left P c.args.first) (nodes_left P n) done.result (active_before P n 0))
    next (continued_node P l.node l.invariant.3 through below cleared done.ensures.node) in
    (omega (arith, below), same_then l.invariant.1 done.ensures.slices, ready, so)

pub returns-clause-continued : goal.returns-clause-continued
unfolding plan_with
returns-clause-continued c =
    let l = c.loop-node in
    let all : l.node ≡ (plan c.args.task.now).nodes = omega (arith, c.loop-node-test.false, c.node_total-node-end.ensures, l.invariant.0) in
    continued_end (plan c.args.task.now) l.node all l.invariant.3
