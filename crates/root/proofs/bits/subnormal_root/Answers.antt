-- `subnormal_root` meets its contract: the shifted digits and the lowered exponent are the same number.
use mathlib.Core.Path.{ap, ◌∙◌}
use Prim.Native.Nat.{ℕ, ◌+◌, ◌-◌, ◌*◌, ◌%◌, ◌^◌, ◌<◌}
use native.Mathlib.Nat.{mod-eq_of_lt}
use native.Mathlib.Omega.{arith}
use lib.Count.{count_leading_zeros}
use Rattle.root.specs.Inner.Reduced.{top}
use Rattle.root.specs.Nearest.{nearest_root}
use Rattle.root.proofs.BitsRoots.{assembled}
use Rattle.root.proofs.LowDigits.{scaled_digits}
use Rattle.root.proofs.Patterns.{number_bits}
use Rattle.root.proofs.Subnormal.{shifted, shifted_top}
use Rattle.root.proofs.bits.subnormal_root.Goals as goal

pub overflow_sub-shift : goal.overflow_sub-shift
overflow_sub-shift c = omega (arith, shifted c.args.pattern c.requires.0 c.requires.1)

pub overflow_add-result : goal.overflow_add-result
overflow_add-result c = omega (arith, shifted c.args.pattern c.requires.0 c.requires.1, scaled_digits _ _ c.digits-q.ensures)

pub float_from_bits-result : goal.float_from_bits-result
float_from_bits-result c = number_bits _ (omega (arith, shifted c.args.pattern c.requires.0 c.requires.1, scaled_digits _ _ c.digits-q.ensures))

pub returns : goal.returns
returns c =
    let m = shifted c.args.pattern c.requires.0 c.requires.1 in
    let e = 1074 - (count_leading_zeros 64 c.args.pattern - 11) in
    let d = c.args.pattern * 2 ^ (count_leading_zeros 64 c.args.pattern - 11) in
    assembled d e c.args.pattern c.digits-q.result _ m.least m.most (omega arith) (omega arith) (omega arith) m.back
    (c.digits-q.ensures
    ∙ ap (λ (n : ℕ). nearest_root (top (n % 2 ^ 52 + (1023 - e % 2) * 2 ^ 52) * 2 ^ 52)) (let l : d < 2 ^ 64 = omega arith in mod-eq_of_lt l)
    ∙ ap (λ (n : ℕ). nearest_root (n * 2 ^ 52)) (shifted_top d e m.least m.most))
