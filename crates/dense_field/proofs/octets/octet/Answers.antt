-- The eight places are those of the octet.
use Rattle.dense_field.proofs.OctetLaws.{octet_read}
use Rattle.dense_field.proofs.octets.octet.Goals as goal

pub returns : goal.returns
returns c = octet_read c.args.n c.args.c c.args.values.now c.requires
