-- `put_form` meets its contract. The invariant: the bytes that are left to put have room, and give what all bytes give.
use Rattle.std.proofs.Common.{length, map}
use Rattle.forms.specs.Forms.{piece_of, spell}
use Rattle.forms.proofs.FormTurns.{pieces_from}
use Rattle.forms.proofs.writing.put_form.Given as goal

abbrev pub invariant-loop-b : goal.invariant-loop-b
invariant-loop-b g l =
    let left = spell (pieces_from l.form l.b-index) l.left in record {
      room : g.S.Sink.room l.sink (length left);
      whole : (last : _) → g.S.Sink.puts l.sink left last → g.S.Sink.puts l.initial.sink (spell (map piece_of l.form) l.numbers) last;
    }
