-- Each point is three numbers.
use Rattle.std.proofs.Common.{◌≡◌, ◌+◌, ◌*◌, length}
use Rattle.grid_cases.proofs.points.row_answer.Given as goal

abbrev pub invariant-loop-q : goal.invariant-loop-q
invariant-loop-q l = length l.answer.numbers.items ≡ 1 + 3 * l.q
