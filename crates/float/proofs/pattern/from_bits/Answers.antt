-- `from_bits` meets its contract: the test passes at the NaN patterns alone.
use Rattle.std.proofs.Common.{not, T, sym, ◌∙◌, subst, le-ltb, lt-ltb}
use Rattle.float.proofs.Bits.{nan_test, nan_value}
use Rattle.float.proofs.Nan.{zero_by_zero}
use Rattle.float.proofs.pattern.from_bits.Goals as goal

pub returns-then-b-gt9218868437227405312 : goal.returns-then-b-gt9218868437227405312
returns-then-b-gt9218868437227405312 c = zero_by_zero ∙ sym (nan_value _ (sym (nan_test _) ∙ lt-ltb _ _ c.if-b-gt9218868437227405312.true))

pub float_from_bits-result : goal.float_from_bits-result
float_from_bits-result c = subst (λ b. T (not b)) (sym (sym (nan_test _) ∙ le-ltb _ _ c.if-b-gt9218868437227405312.false)) tt
