-- `gather` meets its contract: the places read so far that were marked stand in front.
use Rattle.std.proofs.Common.{◌≡◌, arith, rules}
use Rattle.grid.proofs.GatherLaws.{gathering_start, gathering_more, gathering_skip}
use Rattle.grid.proofs.needed.gather.Goals as goal
use Rattle.grid.proofs.needed.gather.Goals.{then-list-corner-ne0, else-list-corner-ne0}

pub loop-corner-init : goal.loop-corner-init
loop-corner-init c = (search rules, gathering_start _)

pub loop-corner-preserved : goal.loop-corner-preserved
loop-corner-preserved c =
    let b = c.before.before.before in
    let l = b.loop-corner in
    let a = b.args in (
      omega arith,
      elim c.if-list-corner-ne0.branch [
        | then-list-corner-ne0 w ↦ gathering_more a.list.now l.corner l.count l.list l.invariant.1 (omega arith) w.if-list-corner-ne0.true w.list-is w.count-is
        | else-list-corner-ne0 w ↦ gathering_skip a.list.now l.corner l.count l.list l.invariant.1 w.if-list-corner-ne0.false w.list-is w.count-is
      ],
    )

pub returns : goal.returns
returns c =
    let g = c.loop-corner.invariant.1 in
    let all : c.loop-corner.corner ≡ c.args.corners = omega arith in
    record {
      kept = g.kept;
      few = omega (arith, g.few);
      counted = rw all at g.counted;
      front = rw all at g.front;
    }
