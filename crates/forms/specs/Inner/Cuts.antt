-- How much of a text decides what a form reads there.
use Rattle.std.specs.Prelude.{ℕ, ◌+◌, ◌-◌, Bool, true, false, ◌&&◌, List, [], ◌∷◌, leb, length, take}
use Rattle.forms.specs.Digits.{digit_of}
use Rattle.forms.specs.Fronts as fronts
use Rattle.forms.specs.Forms.{Piece, hex, decimal, byte, Line, off, line}

-- whether a text does not begin with a decimal digit
unfoldable pub ends_number : List ℕ → Bool
ends_number [] = true
ends_number (b ∷ t) = leb 10 (digit_of b)

-- whether a form begins with a byte that is no decimal digit
unfoldable pub ends_decimal : List Piece → Bool
ends_decimal [] = false
ends_decimal (hex ∷ form) = false
ends_decimal (decimal ∷ form) = false
ends_decimal (byte b ∷ form) = leb 10 (digit_of b)

-- whether a byte that is no decimal digit stands after each decimal number
unfoldable pub separated : List Piece → Bool
separated [] = true
separated (hex ∷ form) = separated form
separated (decimal ∷ form) = ends_decimal form && separated form
separated (byte b ∷ form) = separated form

-- what is read of the first m bytes of a text of n bytes, if what is read of the whole text ends within them
unfoldable pub cut_front : (m n : ℕ) → fronts.Front → fronts.Front
cut_front m n fronts.off = fronts.off
cut_front m n (fronts.number x rest) = fronts.number x (take (m + length rest - n) rest)

unfoldable pub cut_line : (m n : ℕ) → Line → Line
cut_line m n off = off
cut_line m n (line xs rest) = line xs (take (m + length rest - n) rest)
