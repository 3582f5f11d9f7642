-- `put_piece` meets its contract: a piece is one of three.
use Rattle.std.proofs.Common.{sym, ◌∙◌, subst}
use Rattle.forms.specs.Forms.{spell_piece}
use Rattle.forms.proofs.DigitLaws.{digits_length}
use Rattle.forms.proofs.writing.put_piece.Goals as goal

pub put_hex-requires : goal.put_hex-requires
unfolding spell_piece
put_hex-requires g c = let room = rw c.in-Hex.is at c.requires in subst (g.S.Sink.room c.args.sink.now) (digits_length 16 16 c.args.x) room

pub put_digits-requires-clause-room : goal.put_digits-requires-clause-room
unfolding spell_piece
put_digits-requires-clause-room g c =
    let room = rw c.in-Decimal.is at c.requires in
    subst (g.S.Sink.room c.args.sink.now) (digits_length 10 _ c.args.x ∙ sym c.decimal_count.ensures) room

pub put_byte-requires : goal.put_byte-requires
unfolding spell_piece
put_byte-requires g c = rw c.in-Byte.is at c.requires

pub returns-in-Hex : goal.returns-in-Hex
unfolding spell_piece
returns-in-Hex g c = rw c.in-Hex.is c.put_hex.ensures

pub returns-in-Decimal : goal.returns-in-Decimal
unfolding spell_piece
returns-in-Decimal g c = rw (c.in-Decimal.is, ← c.decimal_count.ensures) c.put_digits.ensures

pub returns-in-Byte : goal.returns-in-Byte
unfolding spell_piece
returns-in-Byte g c = rw c.in-Byte.is c.put_byte.ensures
