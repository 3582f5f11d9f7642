-- The plane case of docs/RULES.md, and texts off their form.
use mathlib.Core.Path.{◌≡◌, refl}
use mathlib.Core.List.{List, [], ◌∷◌, ◌++◌}
use Prim.Native.Nat.{ℕ}
use Rattle.forms.specs.Bytes.{bytes}
use Rattle.forms.specs.Digits.{digit_value, digit_of}
use Rattle.forms.specs.Fronts.{hex_after, decimal_after, decimal_front}
use Rattle.forms.specs.Forms.{piece_of, is_field, read_piece, with_number, on_front, read_form}
use Rattle.job_text.specs.Lines.{plane}
use Rattle.job_text.specs.Parts.{Spelt, or_part, part_among}
use Rattle.job_text.specs.Reading.{Written, off_at, written, with_part, on_part, read_parts, on_line, on_parts, read_text}

bounds : List ℕ
bounds = bytes "(bounds (min 0000000000000000 0000000000000000 0000000000000000) (max 4000000000000000 4000000000000000 4000000000000000))\n"

header : List ℕ
unfolding bounds
header = bounds ++ bytes "(cell 3ff0000000000000)\n(blocks 2 2)\n(band bfd0000000000000 0000000000000000)\n"

abbrev case_with : List Spelt → Written
case_with ss = record {
  bounds = 0 ∷ 0 ∷ 0 ∷ 0x4000000000000000 ∷ 0x4000000000000000 ∷ 0x4000000000000000 ∷ [];
  cell = 0x3ff0000000000000 ∷ [];
  blocks = 2 ∷ 2 ∷ [];
  band = 0xbfd0000000000000 ∷ 0 ∷ [];
  parts = ss;
}

case_read : read_text (header ++ bytes "(plane 3ff0000000000000 0000000000000000 0000000000000000 0000000000000000)\n")
    ≡ written (case_with (record { kind = plane; numbers = 0x3ff0000000000000 ∷ 0 ∷ 0 ∷ 0 ∷ [] } ∷ []))
unfolding header bounds digit_of digit_value hex_after decimal_after decimal_front piece_of is_field read_piece with_number on_front
    read_form or_part part_among with_part on_part read_parts on_line on_parts read_text
case_read = refl

-- four lines alone are on their form: no part is 4
no_part : read_text header ≡ written (case_with [])
unfolding header bounds digit_of digit_value hex_after decimal_after decimal_front piece_of is_field read_piece with_number on_front
    read_form or_part part_among with_part on_part read_parts on_line on_parts read_text
no_part = refl

-- a text that ends early: the line after the last
ends_early : read_text bounds ≡ off_at 2
unfolding bounds digit_of digit_value hex_after decimal_after decimal_front piece_of is_field read_piece with_number on_front read_form on_line read_text
ends_early = refl

-- a part line without its end
no_end : read_text (header ++ bytes "(neg 0)") ≡ off_at 5
unfolding header bounds digit_of digit_value hex_after decimal_after decimal_front piece_of is_field read_piece with_number on_front
    read_form or_part part_among with_part on_part read_parts on_line on_parts read_text
no_end = refl
