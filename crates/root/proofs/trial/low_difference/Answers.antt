-- `low_difference` meets its contract: the digits that are left out count for a multiple of 2 ^ 61.
use native.Mathlib.Omega.{arith}
use Rattle.root.proofs.LowDigits.{low_top, low_difference}
use borrow.Author.Rules.{rules}
use Rattle.root.proofs.trial.low_difference.Goals as goal

pub returns : goal.returns
returns c =
    let t = low_top c.args.operand.pattern in
    (search rules, low_difference _ _ _ _ (omega arith) c.low_square.ensures.0 c.low_square.ensures.1 t.same)
