-- `put_digits` of a lent slice meets its contract. The invariant: the digits that are left to put give what all digits give.
use Rattle.std.proofs.Common.{◌≡◌, length}
use Rattle.std.proofs.lemmas.List.Edits.{sets}
use Rattle.forms.specs.Digits.{digits}
use Rattle.forms.proofs.sink.CursorSink.put_digits.Given as goal

abbrev pub invariant-loop-i : goal.invariant-loop-i
invariant-loop-i l = record {
  size : length l.out ≡ length l.initial.out;
  whole : sets l.out l.at (digits l.base l.i l.rest) ≡ sets l.initial.out l.at (digits l.base l.count l.x);
}
