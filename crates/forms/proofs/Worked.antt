-- Lines of job texts and listings, read and spelled by their forms.
use mathlib.Core.Path.{◌≡◌, refl}
use mathlib.Core.Bool.{true}
use mathlib.Core.List.{[], ◌∷◌, map}
use Rattle.forms.specs.Bytes.{bytes}
use Rattle.forms.specs.Digits.{digit_byte, digit_value, digit_of, digits, decimal_count}
use Rattle.forms.specs.Fronts.{hex_after, decimal_after, decimal_front}
use Rattle.forms.specs.Forms.{piece_of, spell_piece, is_field, after, spell, off, line, read_piece, with_number, on_front, read_form}
use Rattle.forms.specs.Fitting.{most_piece, most_of, most}
use Rattle.forms.specs.Inner.Cuts.{ends_decimal, separated}

blocks_read : read_form 4294967295 (map piece_of (bytes "(blocks D D)\n")) (bytes "(blocks 2 10)\n(band") ≡ line (2 ∷ 10 ∷ []) (bytes "(band")
unfolding piece_of read_form read_piece on_front with_number is_field decimal_front decimal_after digit_of digit_value
blocks_read = refl

blocks_zero : read_form 4294967295 (map piece_of (bytes "(blocks D D)\n")) (bytes "(blocks 02 2)\n") ≡ off
unfolding piece_of read_form read_piece on_front with_number is_field decimal_front decimal_after digit_of digit_value
blocks_zero = refl

blocks_past : read_form 4294967295 (map piece_of (bytes "(blocks D D)\n")) (bytes "(blocks 2 4294967296)\n") ≡ off
unfolding piece_of read_form read_piece on_front with_number is_field decimal_front decimal_after digit_of digit_value
blocks_past = refl

cell_read : read_form 4294967295 (map piece_of (bytes "(cell H)\n")) (bytes "(cell 3ff0000000000000)\n") ≡ line (0x3ff0000000000000 ∷ []) []
unfolding piece_of read_form read_piece on_front with_number is_field hex_after digit_of digit_value
cell_read = refl

cell_upper : read_form 4294967295 (map piece_of (bytes "(cell H)\n")) (bytes "(cell 3FF0000000000000)\n") ≡ off
unfolding piece_of read_form read_piece on_front with_number is_field hex_after digit_of digit_value
cell_upper = refl

done_spelled : spell (map piece_of (bytes "(done D D D D D)\n")) (1 ∷ 8 ∷ 4 ∷ 32 ∷ 59 ∷ []) ≡ bytes "(done 1 8 4 32 59)\n"
unfolding piece_of spell spell_piece after is_field digits decimal_count digit_byte
done_spelled = refl

bounds_most : most (map piece_of (bytes "(bounds (min H H H) (max H H H))\n")) ≡ 123
unfolding piece_of most_of most_piece
bounds_most = refl

blocks_separated : separated (map piece_of (bytes "(blocks D D)\n")) ≡ true
unfolding piece_of separated ends_decimal digit_of digit_value
blocks_separated = refl
