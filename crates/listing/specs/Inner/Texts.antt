-- The bytes of a line by its form.
use Rattle.std.specs.Prelude.{ℕ, List, map}
use Rattle.forms.specs.Forms.{piece_of, spell}
use Rattle.listing.specs.declared.text.Line.{Line}

abbrev pub line_bytes : Line → List ℕ
line_bytes l = spell (map piece_of l.form.now) l.numbers.now
