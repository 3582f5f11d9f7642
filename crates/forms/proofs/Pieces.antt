-- A piece of a form has at most 20 bytes.
use Rattle.std.proofs.Common.{ℕ, ◌≤◌, length, arith}
use Rattle.forms.specs.Digits.{decimal_count}
use Rattle.forms.specs.Forms.{Piece, hex, decimal, byte, spell_piece}
use Rattle.forms.proofs.DigitLaws.{digits_length, count_limit}

pub piece_widest : (p : Piece) (x : ℕ) → length (spell_piece p x) ≤ 20
unfolding spell_piece
piece_widest hex x = omega (arith, digits_length 16 16 x)
piece_widest decimal x = omega (arith, digits_length 10 (decimal_count 19 x) x, count_limit 19 x)
piece_widest (byte b) x = omega arith
