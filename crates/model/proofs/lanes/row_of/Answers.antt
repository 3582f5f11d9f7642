-- The part that is lent holds the row's lanes.
use Rattle.std.proofs.Common.{arith}
use Rattle.model.proofs.Rows.{lanes_read}
use Rattle.model.proofs.lanes.row_of.Goals as goal

pub returns-clause-lanes : goal.returns-clause-lanes
returns-clause-lanes c = lanes_read c.args.values.now c.args.p c.args.n (omega arith) c.requires
