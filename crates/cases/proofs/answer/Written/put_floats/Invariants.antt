-- `put_floats` puts the bits of each float in turn.
use Rattle.std.proofs.Common.{◌≡◌, ◌++◌, map, take}
use Rattle.cases.specs.Answer.{bits_of}
use Rattle.cases.proofs.answer.Written.put_floats.Given as goal

abbrev pub invariant-loop-x : goal.invariant-loop-x
invariant-loop-x g l = l.self.numbers.items ≡ l.initial.self.numbers.items ++ map bits_of (take l.x-index l.xs)
