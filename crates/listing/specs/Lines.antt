-- The lines of a listing (rules T10 to T13). H stands for a float's bits, D for a decimal number.
use Rattle.std.specs.Prelude.{ℕ, List}
use Rattle.forms.specs.Bytes.{bytes}
use Rattle.forms.specs.declared.Piece.{Piece}
use Rattle.job_text.specs.Lines.{form}

-- the five counts (rule T10)
abbrev pub done_form : List Piece
done_form = form "(done D D D D D)\n"

-- node, child, then the values, each after a space, and the end of the line (rule T11)
abbrev pub leaf_form : List Piece
leaf_form = form "(leaf D D"

abbrev pub leaf_end : List ℕ
leaf_end = bytes ")\n"

-- node, child, number (rule T12)
abbrev pub constant_form : List Piece
constant_form = form "(constant D D H)\n"

-- the number of a cause (rule T13)
abbrev pub refused_form : List Piece
refused_form = form "(refused D)\n"

-- the line of a text that is off its form (rule T13)
abbrev pub off_form : List Piece
off_form = form "(refused 12 D)\n"
