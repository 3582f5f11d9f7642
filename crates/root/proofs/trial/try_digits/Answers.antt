-- `try_digits` meets its contract: without objections the digits are those of the nearest root.
use native.Mathlib.Omega.{arith}
use Rattle.root.proofs.TrialLaws.{tried_digits}
use borrow.Author.Rules.{rules}
use Rattle.root.proofs.trial.try_digits.Goals as goal

pub returns : goal.returns
returns c = record {
  most = search rules;
  few = search rules;
  nearest = λ z. tried_digits _ _ _ _ _ (omega arith) c.low_difference-d.ensures.1 (omega arith)
      (c.apart.ensures.1 (omega arith)) (omega arith);
}
