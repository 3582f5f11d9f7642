-- `put_digits` of a count meets its contract.
use Rattle.std.proofs.Common.{arith}
use Rattle.forms.proofs.DigitLaws.{digits_length}
use Rattle.forms.proofs.sink.CountSink.put_digits.Goals as goal

pub returns : goal.returns
returns c = let a = c.args in omega (arith, digits_length a._base a.count a._x)
