-- `estimate` meets its contract: both patterns are a number's.
use native.Mathlib.Omega.{arith}
use Rattle.root.proofs.Patterns.{number_bits}
use Rattle.root.proofs.seed.estimate.Goals as goal

pub float_from_bits-a : goal.float_from_bits-a
float_from_bits-a c = number_bits _ (omega arith)

pub float_from_bits-h0 : goal.float_from_bits-h0
float_from_bits-h0 c = number_bits _ (omega arith)
