-- `read_hex` meets its contract. The invariant: what is left to read gives what the whole gives, and the number has room for the digits left.
use Rattle.std.proofs.Common.{◌≡◌, ◌+◌, ◌-◌, ◌*◌, ◌^◌, ◌≤◌, ◌++◌, drop}
use Rattle.forms.specs.Fronts.{hex_after}
use Rattle.forms.proofs.reading.read_hex.Given as goal

abbrev pub invariant-loop-b : goal.invariant-loop-b
invariant-loop-b l = record {
  whole : hex_after (16 - l.b-index) l.value (drop l.b-index l.digits ++ l.rest) ≡ hex_after 16 0 (l.digits ++ l.rest);
  room : (l.value + 1) * 16 ^ (16 - l.b-index) ≤ 2 ^ 64;
}
