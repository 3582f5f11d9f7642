-- `square` meets its contract: the three products put together are the square, and they are small.
use native.Mathlib.Omega.{arith}
use Rattle.root.proofs.WholeLaws.{square_split, products}
use Rattle.root.proofs.whole.square.Goals as goal

pub returns : goal.returns
returns c = (square_split c.args.t, omega (arith, products c.args.t c.requires), omega (arith, products c.args.t c.requires))
