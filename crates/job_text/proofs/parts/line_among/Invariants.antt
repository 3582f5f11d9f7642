-- `line_among` meets its contract. The invariant: the kinds that are left give what all give.
use Rattle.std.proofs.Common.{◌≡◌, drop}
use Rattle.job_text.specs.Parts.{part_among}
use Rattle.job_text.proofs.parts.line_among.Given as goal

abbrev pub invariant-loop-kind : goal.invariant-loop-kind
invariant-loop-kind l = part_among (drop l.kind-index l.kinds) l.text ≡ part_among l.kinds l.text
