-- A value for each number so far.
use Rattle.std.proofs.Common.{◌≡◌, from_bits, map, take}
use Rattle.std.specs.Float.{binary64}
use Rattle.dense_cases.proofs.values.values_of.Given as goal

abbrev pub invariant-loop-n : goal.invariant-loop-n
invariant-loop-n l = l.values.items ≡ map (from_bits binary64) (take l.n-index l.given)
