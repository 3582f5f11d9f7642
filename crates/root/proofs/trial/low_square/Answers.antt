-- `low_square` meets its contract: what is left out is a multiple of 2 ^ 61.
use native.Mathlib.Omega.{arith}
use Rattle.root.proofs.LowDigits.{low_square, products}
use Rattle.root.proofs.trial.low_square.Goals as goal

pub returns : goal.returns
returns c = (omega (arith, products c.args.guess.digits), low_square _ (omega arith))
