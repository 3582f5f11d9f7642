-- Two rounds at each turn, and after an odd last one the result is copied back.
use Rattle.std.proofs.Common.{length, sym, refl, ap, ◌∙◌, arith, rules}
use Rattle.lists.proofs.Filling.{filled_copy}
use Rattle.float.specs.Zero.{plus_zero}
use Rattle.dense_field.proofs.SmoothingLaws.{once_length, no_rounds, round_more}
use Rattle.dense_field.proofs.smoothing.smooth_rounds.Goals as goal

pub loop-init : goal.loop-init
loop-init c = (search rules, search rules, no_rounds _ _ _ _ (omega arith))

pub loop-preserved : goal.loop-preserved
loop-preserved c =
    let a = c.args in
    let first = c.smooth_once.ensures in
    let second = c.smooth_once-in-loop.ensures in
    let so_far = round_more a.n a.factor a.values.now c.loop.invariant.2 first refl in (
      ap length second ∙ once_length _ _ _ ∙ sym c.requires.0.long,
      ap length first ∙ once_length _ _ _ ∙ sym (c.requires.1 ∙ c.requires.0.long),
      round_more a.n a.factor a.values.now so_far second (omega arith),
    )

pub returns-then-rounds-eq1 : goal.returns-then-rounds-eq1
returns-then-rounds-eq1 c =
    let a = c.args in
    let once = c.smooth_once-then-rounds-eq1.ensures in
    let long = c.loop.invariant.0 ∙ c.requires.0.long ∙ sym (ap length once ∙ once_length _ _ _) in
    c.copy_values.ensures
    ∙ filled_copy _ c.loop.values plus_zero long
    ∙ round_more a.n a.factor a.values.now c.loop.invariant.2 once (omega arith)
