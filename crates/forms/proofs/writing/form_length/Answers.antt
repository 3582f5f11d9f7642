-- `form_length` meets its contract: a line has at most 20 bytes to a piece.
use Rattle.std.proofs.Common.{map, arith}
use Rattle.std.proofs.lemmas.List.{length-map}
use Rattle.forms.specs.Forms.{piece_of}
use Rattle.forms.proofs.FormTurns.{spell_most}
use Rattle.forms.proofs.writing.form_length.Goals as goal

pub put_form-requires : goal.put_form-requires
put_form-requires c =
    let a = c.args in
    omega (arith, c.requires, spell_most (map piece_of a.form.now) a.numbers.now, length-map a.form.now piece_of)
