-- `nearest` meets its contract: the nearest number is q or above it, and below `past`.
use native.Mathlib.Omega.{arith}
use Rattle.root.proofs.NearestLaws.{nearest_is, reached}
use Rattle.root.proofs.whole.nearest.Goals as goal

pub returns : goal.returns
returns c =
    let v = c.loop-q.invariant in
    nearest_is _ _ (omega arith) (omega arith) (record { above = v.3; below = reached _ _ _ v.4 (omega arith) })
