-- `read_text` meets its contract: each read goes behind what is there.
use Rattle.std.proofs.Common.{rules}
use Rattle.streams.proofs.Fill.{front_ended, front_grown, front_kept}
use Rattle.streams.proofs.read_text.Goals as goal

pub returns-in_err-more-clause-none_lost : goal.returns-in_err-more-clause-none_lost
returns-in_err-more-clause-none_lost g c =
    front_kept _ _ _ _ _ _ _ c.from_residual.result (search rules) c.loop-count.invariant.1 c.loop-count.invariant.2 c.in_err-more.ensures.bytes

pub returns-then-more-eq0-clause-bytes : goal.returns-then-more-eq0-clause-bytes
returns-then-more-eq0-clause-bytes g c =
    front_ended _ _ _ _ _ _ _ _ c.if-more-eq0.true c.loop-count.invariant.1 c.in_ok-more.ensures.bound.0 c.loop-count.invariant.2 c.in_ok-more.ensures.bytes.0

pub loop-count-preserved : goal.loop-count-preserved
loop-count-preserved g c = (
  search rules,
  search rules,
  front_grown _ _ _ _ _ _ _ _ c.loop-count.invariant.1 c.in_ok-more.ensures.bound.0 c.loop-count.invariant.2 c.in_ok-more.ensures.bytes.0,
)
