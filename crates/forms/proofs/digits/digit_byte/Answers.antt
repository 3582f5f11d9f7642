-- `digit_byte` meets its contract.
use mathlib.Core.Path.{sym}
use Rattle.forms.proofs.DigitLaws.{byte_number, byte_letter}
use Rattle.forms.proofs.digits.digit_byte.Goals as goal

pub returns-then-d-lt10 : goal.returns-then-d-lt10
returns-then-d-lt10 c = sym (byte_number _ c.if-d-lt10.true)

pub returns-else-d-lt10 : goal.returns-else-d-lt10
returns-else-d-lt10 c = sym (byte_letter _ c.if-d-lt10.false)
