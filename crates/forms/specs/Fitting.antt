-- Which numbers fit a form, and how many bytes a line of it has at most.
use Rattle.std.specs.Prelude.{ℕ, ◌+◌, ◌^◌, ◌≤◌, ◌<◌, ◌≡◌, List, [], ◌∷◌, ◌++◌, length, get_or}
use Rattle.forms.specs.Forms.{Piece, hex, decimal, byte, after, spell, fields}

-- a number that a piece can have
unfoldable pub FitsPiece : (limit : ℕ) → Piece → ℕ → Type 0
FitsPiece limit hex x = x < 2 ^ 64
FitsPiece limit decimal x = x ≤ limit
FitsPiece limit (byte b) x = Unit

-- numbers that a form can have
unfoldable pub Fits : (limit : ℕ) → List Piece → List ℕ → Type 0
Fits limit [] xs = Unit
Fits limit (p ∷ form) xs = FitsPiece limit p (get_or xs 0 0) × Fits limit form (after p xs)

-- a text begins with a line of a form, whose numbers fit
pub record Spells (limit : ℕ) (form : List Piece) (xs t rest : List ℕ) : Type 0 where
  pub text : t ≡ spell form xs ++ rest
  pub fits : Fits limit form xs
  pub count : length xs ≡ fields form

-- how many bytes a piece has at most, where a decimal number has at most `widest` digits
unfoldable pub most_piece : (widest : ℕ) → Piece → ℕ
most_piece widest hex = 16
most_piece widest decimal = widest
most_piece widest (byte b) = 1

-- how many bytes a form has at most
unfoldable pub most_of : (widest : ℕ) → List Piece → ℕ
most_of widest [] = 0
most_of widest (p ∷ form) = most_piece widest p + most_of widest form

-- the same where decimal numbers are at most 4,294,967,295
abbrev pub most : List Piece → ℕ
most form = most_of 10 form
