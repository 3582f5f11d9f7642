-- At each turn the values before the index are cut.
use Rattle.std.proofs.Common.{◌≡◌, ◌++◌, map, take, drop}
use Rattle.dense_field.specs.Threshold.{cut}
use Rattle.dense_field.proofs.thresholds.cut_all.Given as goal

abbrev pub invariant-loop-v : goal.invariant-loop-v
invariant-loop-v l = l.v-items ≡ map (cut l.limit) (take l.v-index l.initial.v-items) ++ drop l.v-index l.initial.v-items
