-- `pattern_of` meets its contract: what is read as bits is no NaN, and the bits of a float stand for it.
use mathlib.Core.Path.{◌≡◌, sym, ap, ◌∙◌, subst}
use mathlib.Core.Bool.{not}
use native.Mathlib.Omega.{arith}
use lib.Dec.{T}
use lib.Ieee.{Float, is_nan, of_bits, to_bits, binary64}
use lib.Ieee.Bits.{of_bits-to_bits, to_bits-of_bits}
use Rattle.root.proofs.Patterns.{number_of_bits, number_self}
use Rattle.root.proofs.operand.pattern_of.Goals as goal
use Rattle.root.proofs.operand.pattern_of.Goals.{then-x, else-x}

pub float_to_bits-result : goal.float_to_bits-result
float_to_bits-result c = elim c.if-x.branch [
  | then-x w ↦ subst (λ (v : Float). T (not (is_nan v))) (sym w.v-is) (number_of_bits 0 (omega arith))
  | else-x w ↦ subst (λ (v : Float). T (not (is_nan v))) (sym w.v-is) (number_self _ w.if-x.false)
]

pub returns : goal.returns
returns c h = elim c.if-x.branch [
  | then-x w ↦ absurd
      (let e : to_bits binary64 c.if-x.v ≡ 0 = ap (to_bits binary64) w.v-is ∙ to_bits-of_bits binary64 0 (omega arith) (number_of_bits 0 (omega arith)) in
      let f : ⊥ = omega arith in f)
  | else-x w ↦ sym (ap (λ (v : Float). of_bits binary64 (to_bits binary64 v)) w.v-is ∙ of_bits-to_bits binary64 _ (subst T (sym c.well_formed.0.1) tt))
]
