-- `normal_root` meets its contract: the bits are those of the digits and of half the exponent.
use mathlib.Core.Path.{ap, ◌∙◌}
use Prim.Native.Nat.{ℕ, ◌*◌, ◌^◌}
use native.Mathlib.Omega.{arith}
use Rattle.root.specs.Nearest.{nearest_root}
use Rattle.root.proofs.BitsRoots.{normal_root}
use Rattle.root.proofs.LowDigits.{scaled_digits}
use Rattle.root.proofs.Patterns.{number_bits}
use Rattle.root.proofs.bits.normal_root.Goals as goal

pub overflow_add-result-2 : goal.overflow_add-result-2
overflow_add-result-2 c = omega (arith, scaled_digits _ _ c.digits-q.ensures)

pub float_from_bits-result : goal.float_from_bits-result
float_from_bits-result c = number_bits _ (omega (arith, scaled_digits _ _ c.digits-q.ensures))

pub returns : goal.returns
returns c =
    normal_root _ _ _ c.requires.0 c.requires.1 (omega arith)
    (c.digits-q.ensures ∙ ap (λ (n : ℕ). nearest_root (n * 2 ^ 52)) c.reduced.ensures)
