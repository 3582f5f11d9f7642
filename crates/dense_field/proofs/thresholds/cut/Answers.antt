-- The two comparisons are the one of |v|.
use Rattle.dense_field.specs.Threshold.{cut}
use Rattle.float.proofs.AbsOrder.{both_below, not_below, minus_not_below}
use Rattle.dense_field.proofs.thresholds.cut.Goals as goal
use Rattle.dense_field.proofs.thresholds.cut.Goals.{else-v-limit-via-then-v-limit+else-v-limit-2, else-v-limit-via-else-v-limit}

pub returns-then-v-limit-2 : goal.returns-then-v-limit-2
unfolding cut
returns-then-v-limit-2 c = simp (both_below _ _ c.if-v-limit.true c.if-v-limit-2.true)

pub returns-else-v-limit : goal.returns-else-v-limit
unfolding cut
returns-else-v-limit c =
    elim c.else-v-limit.branch [
      | else-v-limit-via-then-v-limit+else-v-limit-2 w ↦ simp (minus_not_below _ _ w.if-v-limit-2.false)
      | else-v-limit-via-else-v-limit w ↦ simp (not_below _ _ w.if-v-limit.false)
    ]
