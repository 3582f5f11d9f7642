-- `decimal_count` meets its contract.
use Rattle.std.proofs.Common.{sym, arith}
use Rattle.forms.proofs.DigitLaws.{count_one, count_between}
use Rattle.forms.proofs.digits.decimal_count.Goals as goal

pub returns-in-Some : goal.returns-in-Some
returns-in-Some c =
    let power = c.in-Some.ensures in
    sym (count_between c.in-Some.power 19 _ (omega (arith, power.bound)) power.power_le power.next_power_gt)

pub returns-in-None : goal.returns-in-None
returns-in-None c = sym (count_one 19 _ (omega (arith, c.in-None.ensures.none)))
