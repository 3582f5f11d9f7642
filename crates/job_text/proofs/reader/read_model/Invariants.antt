-- `read_model` meets its contract. The invariant: the part lines that are passed are in the arrays. At most 64 turns are made.
use Rattle.std.proofs.Common.{◌-◌}
use Rattle.job_text.proofs.Gathering.{Gathered}
use Rattle.job_text.proofs.reader.read_model.Given as goal

abbrev pub invariant-loop-rest : goal.invariant-loop-rest
invariant-loop-rest l = Gathered l.text l.parts l.patterns l.rest l.count

abbrev pub decreases-loop-rest : goal.decreases-loop-rest
decreases-loop-rest l = 64 - l.count
