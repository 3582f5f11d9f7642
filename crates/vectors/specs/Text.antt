-- A list of cases as text: a word, then numbers of 16 lowercase hexadecimal digits, single spaces between them, byte 10 at a line's end.
use Rattle.std.specs.Prelude.{ℕ, zero, suc, ◌+◌, ◌-◌, ◌*◌, Bool, ◌&&◌, if◌then◌else◌, Option, Some, None, List, ◌==◌, nat_le, nat_eq, drop, slice_index_or}
use Rattle.std.specs.Option.{option_and_then}
use Rattle.std.specs.List.{starts_with}

-- the byte at a place, and 256 past the end
unfoldable pub byte_at : List ℕ → ℕ → ℕ
byte_at s at = slice_index_or s at 256

-- what a byte counts as a digit: 0 to 9, then a to f
abbrev pub digit_of : ℕ → Option ℕ
digit_of b = if nat_le 48 b && nat_le b 57 then Some (b - 48) else (if nat_le 97 b && nat_le b 102 then Some (b - 87) else None)

-- the number that the digits so far, n, make with k more from a place on
unfoldable pub hex_from : ℕ → List ℕ → ℕ → ℕ → Option ℕ
hex_from zero s at n = Some n
hex_from (suc k) s at n = option_and_then (λ d. hex_from k s (suc at) (n * 16 + d)) (digit_of (byte_at s at))

abbrev pub hex_at : List ℕ → ℕ → Option ℕ
hex_at s at = hex_from 16 s at 0

-- whether a word stands at a place
abbrev pub has_word : List ℕ → ℕ → List ℕ → Bool
has_word s at word = starts_with nat_eq (drop at s) word

abbrev pub joined : Option ℕ → Option ℕ → Option ℕ → Option (ℕ × ℕ × ℕ)
joined a b c = option_and_then (λ x. option_and_then (λ y. option_and_then (λ z. Some (x, y, z)) c) b) a

-- three numbers, a space after each of the first two and byte 10 after the third
unfoldable pub row_at : List ℕ → ℕ → Option (ℕ × ℕ × ℕ)
row_at s at =
    if byte_at s (at + 16) == 32 && byte_at s (at + 33) == 32 && byte_at s (at + 50) == 10
    then joined (hex_at s at) (hex_at s (at + 17)) (hex_at s (at + 34))
    else None
