-- The form of a line: its bytes, among which the letter H stands for a float's bits and D for a decimal number (rules T1 to T3). No word of
-- a line has an upper-case letter.
use Rattle.std.specs.Prelude.{ℕ, ◌+◌, Bool, true, false, cond, List, [], ◌∷◌, ◌++◌, eqb, get_or, drop}
use Rattle.forms.specs.Digits.{hex_of, decimal_of}
pub use Rattle.forms.specs.declared.piece.Piece.{Piece}
pub use Rattle.forms.specs.declared.piece.Piece.TheVariants.{Hex as hex, Decimal as decimal, Byte as byte}
use Rattle.forms.specs.Fronts.{Front, number, hex_front, decimal_front}

-- the piece that a byte of a quoted form stands for: 72 is H, 68 is D
unfoldable pub piece_of : ℕ → Piece
piece_of b = cond (eqb b 72) hex (cond (eqb b 68) decimal (byte b))

-- ---- writing

-- a piece with its number, if it has one
unfoldable pub spell_piece : Piece → ℕ → List ℕ
spell_piece hex x = hex_of x
spell_piece decimal x = decimal_of x
spell_piece (byte b) x = b ∷ []

-- whether a piece has a number
unfoldable pub is_field : Piece → Bool
is_field hex = true
is_field decimal = true
is_field (byte b) = false

-- the numbers that are left after a piece
unfoldable pub after : Piece → List ℕ → List ℕ
after p xs = cond (is_field p) (drop 1 xs) xs

-- the bytes of a form with its numbers
unfoldable pub spell : List Piece → List ℕ → List ℕ
spell [] xs = []
spell (p ∷ form) xs = spell_piece p (get_or xs 0 0) ++ spell form (after p xs)

-- how many numbers a form has
unfoldable pub fields : List Piece → ℕ
fields [] = 0
fields (p ∷ form) = cond (is_field p) (1 + fields form) (fields form)

-- ---- reading

-- what a text begins with, by a form: it is off the form, or has these numbers, with the text after them
pub data Line : Type 0 where
  off : Line
  line : (numbers rest : List ℕ) → Line

-- a piece at the front of a text, where a decimal number past the limit is off the form (rule T2); a byte counts as 0
unfoldable pub read_piece : (limit : ℕ) → Piece → List ℕ → Front
read_piece limit hex t = hex_front t
read_piece limit decimal t = decimal_front limit t
read_piece limit (byte b) [] = Front.off
read_piece limit (byte b) (c ∷ t) = cond (eqb c b) (number 0 t) Front.off

-- a line with one number more in front
unfoldable pub with_number : Bool → ℕ → Line → Line
with_number b x off = off
with_number false x (line xs t) = line xs t
with_number true x (line xs t) = line (x ∷ xs) t

-- the front, then the rest by the rest of the form
unfoldable pub on_front : Piece → Front → (List ℕ → Line) → Line
on_front p Front.off next = off
on_front p (number x t) next = with_number (is_field p) x (next t)

-- a line at the front of a text, piece by piece (rule T3)
unfoldable pub read_form : (limit : ℕ) → List Piece → List ℕ → Line
read_form limit [] t = line [] t
read_form limit (p ∷ form) t = on_front p (read_piece limit p t) (read_form limit form)
