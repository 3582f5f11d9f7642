-- `nearest` meets its contract: the nearest number is q or above it, and below `past`.
use Prim.Native.Nat.{◌+◌, ◌-◌, ◌*◌, ◌^◌, ◌≤◌, ◌<◌}
use Rattle.root.proofs.whole.nearest.Given as goal

abbrev pub invariant-loop-q : goal.invariant-loop-q
invariant-loop-q l = (2 ^ 52 ≤ l.q) × (l.q < l.past) × (l.past ≤ 2 ^ 53) × (l.q * l.q < l.top * 2 ^ 52 + l.q) × (l.top * 2 ^ 52 + l.past ≤ l.past * l.past)

abbrev pub decreases-loop-q : goal.decreases-loop-q
decreases-loop-q l = l.past - l.q
