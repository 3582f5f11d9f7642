-- `settled` meets its contract: a trial below 2 ^ 63 is the root's bits.
use Rattle.root.proofs.Patterns.{number_bits}
use Rattle.root.proofs.row.settled.Goals as goal

pub float_from_bits-result : goal.float_from_bits-result
float_from_bits-result c = number_bits _ (c.requires.number c.if-tried-lt9223372036854775808.true)
