-- `ceil` meets its contract: the ceiling is the mirror of the floor of the mirrored value.
use Rattle.std.proofs.Common.{sym, ap, ◌∙◌}
use lib.Ieee.{neg}
use Rattle.float.proofs.Exact.{ceil_mirrored}
use Rattle.float.proofs.rounding.ceil.Goals as goal

pub returns : goal.returns
returns c = c.computed.ensures ∙ ap neg c.floor.ensures ∙ sym (ceil_mirrored c.args.x)
