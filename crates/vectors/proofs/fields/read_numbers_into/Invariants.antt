-- Each number so far took 17 bytes of the fields.
use Rattle.std.proofs.Common.{◌≡◌, ◌+◌, ◌*◌, length}
use Rattle.arrayvec.specs.ArrayVec.{array_vec_len}
use Rattle.vectors.proofs.fields.read_numbers_into.Given as goal

abbrev pub invariant-loop-field : goal.invariant-loop-field
invariant-loop-field l = record {
  size : l.field-iterator.size ≡ 17;
  taken : length l.field-iterator.rest.now + 17 * array_vec_len l.numbers + 1 ≡ length l.rest;
}
