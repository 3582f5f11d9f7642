-- The forms of a job's text: none is misread, and how many bytes each has at most.
use mathlib.Core.Path.{◌≡◌, refl, ap, ◌∙◌}
use Prim.Native.Nat.{ℕ, ◌≤◌, ◌<◌}
use native.Mathlib.Omega.{arith}
use mathlib.Core.Bool.{true}
use mathlib.Core.List.{List, [], ◌∷◌, ◌++◌}
use lib.ListN.{length}
use Rattle.forms.specs.Digits.{digit_value, digit_of}
use Rattle.forms.specs.Forms.{piece_of, is_field, after, spell_piece, spell, Line, read_piece, with_number, on_front, read_form}
use Rattle.forms.specs.Fitting.{most_piece, most_of, most}
use Rattle.forms.specs.Inner.Cuts.{ends_decimal, separated}
use Rattle.forms.proofs.FormLaws.{form_spelled}
use Rattle.job_text.specs.Lines.{limit, bounds_form, cell_form, blocks_form, band_form, PartKind, const, sphere, plane, min, max, add, sub, neg, part_form}
use Rattle.job_text.specs.Parts.{Spelt, part, or_part, part_among, read_part}
use Rattle.job_text.specs.OnForm.{OnPart}

pub bounds_apart : separated bounds_form ≡ true
unfolding separated piece_of
bounds_apart = refl

pub cell_apart : separated cell_form ≡ true
unfolding separated piece_of
cell_apart = refl

pub blocks_apart : separated blocks_form ≡ true
unfolding separated ends_decimal digit_of digit_value piece_of
blocks_apart = refl

pub band_apart : separated band_form ≡ true
unfolding separated piece_of
band_apart = refl

pub part_apart : (k : PartKind) → separated (part_form k) ≡ true
unfolding separated ends_decimal digit_of digit_value piece_of
part_apart const = refl
part_apart sphere = refl
part_apart plane = refl
part_apart min = refl
part_apart max = refl
part_apart add = refl
part_apart sub = refl
part_apart neg = refl

pub bounds_most : most bounds_form ≡ 123
unfolding most_of most_piece piece_of
bounds_most = refl

pub cell_most : most cell_form ≡ 24
unfolding most_of most_piece piece_of
cell_most = refl

pub blocks_most : most blocks_form ≡ 31
unfolding most_of most_piece piece_of
blocks_most = refl

pub band_most : most band_form ≡ 41
unfolding most_of most_piece piece_of
band_most = refl

pub part_most : (k : PartKind) → most (part_form k) ≤ 77
unfolding most_of most_piece piece_of
part_most const = omega arith
part_most sphere = omega arith
part_most plane = omega arith
part_most min = omega arith
part_most max = omega arith
part_most add = omega arith
part_most sub = omega arith
part_most neg = omega arith

-- ---- a part line is read by its own kind

kinds_after : PartKind → List PartKind
kinds_after const = sphere ∷ plane ∷ min ∷ max ∷ add ∷ sub ∷ neg ∷ []
kinds_after sphere = plane ∷ min ∷ max ∷ add ∷ sub ∷ neg ∷ []
kinds_after plane = min ∷ max ∷ add ∷ sub ∷ neg ∷ []
kinds_after min = max ∷ add ∷ sub ∷ neg ∷ []
kinds_after max = add ∷ sub ∷ neg ∷ []
kinds_after add = sub ∷ neg ∷ []
kinds_after sub = neg ∷ []
kinds_after neg = []

-- the text of a line is off the forms of the kinds before its own
own_kind :
    (k : PartKind) (xs t : List ℕ)
    → let s = spell (part_form k) xs ++ t in read_part s ≡ or_part k (read_form limit (part_form k) s)
    (part_among (kinds_after k) s)
unfolding kinds_after part_among or_part read_form read_piece on_front with_number spell spell_piece after is_field piece_of
own_kind const xs t = refl
own_kind sphere xs t = refl
own_kind plane xs t = refl
own_kind min xs t = refl
own_kind max xs t = refl
own_kind add xs t = refl
own_kind sub xs t = refl
own_kind neg xs t = refl

pub part_complete : (s : Spelt) (t : List ℕ) → OnPart s → read_part (spell (part_form s.kind) s.numbers ++ t) ≡ part s t
unfolding or_part
part_complete s t on =
    own_kind s.kind s.numbers t
    ∙ ap (λ (l : Line). or_part s.kind l (part_among (kinds_after s.kind) (spell (part_form s.kind) s.numbers ++ t)))
    (form_spelled limit (part_form s.kind) s.numbers t (omega arith) (part_apart s.kind) on.fits on.count)

pub part_some : (k : PartKind) (xs t : List ℕ) → 0 < length (spell (part_form k) xs ++ t)
unfolding spell spell_piece piece_of
part_some const xs t = omega arith
part_some sphere xs t = omega arith
part_some plane xs t = omega arith
part_some min xs t = omega arith
part_some max xs t = omega arith
part_some add xs t = omega arith
part_some sub xs t = omega arith
part_some neg xs t = omega arith
