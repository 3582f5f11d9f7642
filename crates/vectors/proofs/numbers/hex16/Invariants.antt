-- `hex16` meets its contract. The invariant: what is left to read gives what the whole gives, and the number has room for the digits left.
use Rattle.std.proofs.Common.{◌≡◌, ◌+◌, ◌-◌, ◌*◌, ◌^◌, ◌≤◌}
use Rattle.vectors.specs.Text.{hex_from}
use Rattle.vectors.proofs.numbers.hex16.Given as goal

abbrev pub invariant-loop-b : goal.invariant-loop-b
invariant-loop-b l = record {
  rest : hex_from (16 - l.b-index) l.s (l.at + l.b-index) l.n ≡ hex_from 16 l.s l.at 0;
  room : (l.n + 1) * 16 ^ (16 - l.b-index) ≤ 2 ^ 64;
}
