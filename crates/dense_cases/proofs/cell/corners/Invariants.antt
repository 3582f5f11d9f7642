-- Each corner is three numbers.
use Rattle.std.proofs.Common.{◌≡◌, ◌+◌, ◌*◌}
use Rattle.arrayvec.specs.ArrayVec.{array_vec_len}
use Rattle.dense_cases.proofs.cell.corners.Given as goal

abbrev pub invariant-loop-p : goal.invariant-loop-p
invariant-loop-p l = array_vec_len l.answer.numbers ≡ 1 + 3 * l.p-index
