-- The part that is copied is a stretch of stores.
use Rattle.std.proofs.Common.{◌+◌, ◌-◌, take, drop, ◌∙◌, length-take-le, length-drop, arith}
use lib.Seq.{get_or-take, get_or-drop}
use Rattle.lists.proofs.LentPart.{lent_copy}
use Rattle.float.specs.Zero.{plus_zero}
use Rattle.dense_field.specs.Smoothing.{value_of}
use Rattle.dense_field.proofs.smoothing.copy_values.Goals as goal

pub returns : goal.returns
returns c =
    let a = c.args in
    let m = a.at + a.count - a.at in
    lent_copy a.at a.count a.new.now plus_zero (omega arith) (value_of a.old.now) (a.at + a.count) (take m (drop a.at a.old.now)) (omega arith)
    c.copy_values.ensures
    (length-take-le m (drop a.at a.old.now) (omega (arith, length-drop a.at a.old.now)) ∙ omega arith)
    (λ k h. get_or-take m (drop a.at a.old.now) k plus_zero (omega arith) ∙ get_or-drop a.at a.old.now k plus_zero)
