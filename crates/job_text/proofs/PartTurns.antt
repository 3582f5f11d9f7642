-- The part line at a place, kind after kind; its numbers fit.
use mathlib.Core.Path.{◌≡◌, sym, ap}
use Prim.Native.Nat.{ℕ, ◌+◌, ◌≤◌, ◌<◌}
use native.Mathlib.Numerals.{add-one}
use native.Mathlib.Omega.{arith}
use mathlib.Core.List.{List, [], ◌∷◌, ◌++◌, map}
use lib.ListN.{length, get_or, take, drop}
use lib.Seq.{drop-cons, drop-length, get_or-take, get_or-drop}
use Rattle.forms.specs.Bytes.{bytes}
use Rattle.forms.specs.Forms.{piece_of, is_field, after, fields, off, line, read_form}
use Rattle.forms.specs.declared.Piece.{Piece}
use Rattle.forms.specs.declared.Piece.TheVariants.{Decimal as decimal, Byte as byte}
use Rattle.forms.specs.Fitting.{FitsPiece, Fits}
use Rattle.forms.proofs.FormLaws.{form_sound}
use Rattle.job_text.specs.Lines.{limit, PartKind, const, sphere, plane, min, max, add, sub, neg, part_form, blocks_form}
use Rattle.job_text.specs.Parts.{word, none, part, or_part, part_among, read_part}
use Rattle.job_text.specs.Inner.TextAnswers.{FitsWords}
use Rattle.job_text.proofs.Sound.{part_sound}

-- ---- numbers of 32 bits

-- what fits a form fits what stands in it after some bytes
pub fits_past : (bs : List ℕ) (form : List Piece) (xs : List ℕ) → Fits limit (map byte bs ++ form) xs → Fits limit form xs
unfolding Fits after is_field
fits_past [] form xs fits = fits
fits_past (b ∷ bs) form xs fits = fits_past bs form xs fits.1

-- the numbers of a line with two decimal numbers, and of one with one
pub two_fit : (bs xs : List ℕ) → Fits limit (map byte bs ++ (decimal ∷ byte 32 ∷ decimal ∷ byte 41 ∷ byte 10 ∷ [])) (take 2 xs)
    → (word xs 0 ≤ limit) × (word xs 1 ≤ limit)
unfolding Fits FitsPiece after is_field
two_fit bs xs fits =
    let past : Fits limit (decimal ∷ byte 32 ∷ decimal ∷ byte 41 ∷ byte 10 ∷ []) (take 2 xs) = fits_past bs _ _ fits in
    let second : get_or (drop 1 (take 2 xs)) 0 0 ≤ limit = past.1.1.0 in
    (rw (get_or-take 2 xs 0 0 (omega arith)) at past.0, rw (get_or-drop 1 (take 2 xs) 0 0, get_or-take 2 xs 1 0 (omega arith)) at second)

one_fits : (bs xs : List ℕ) → Fits limit (map byte bs ++ (decimal ∷ byte 41 ∷ byte 10 ∷ [])) (take 1 xs) → word xs 0 ≤ limit
unfolding Fits FitsPiece after is_field
one_fits bs xs fits =
    let past : Fits limit (decimal ∷ byte 41 ∷ byte 10 ∷ []) (take 1 xs) = fits_past bs _ _ fits in
    rw (get_or-take 1 xs 0 0 (omega arith)) at past.0

-- the block sizes that are read
pub blocks_fit : (t xs rest : List ℕ) → line (take (fields blocks_form) xs) rest ≡ read_form limit blocks_form t
    → (word xs 0 ≤ limit) × (word xs 1 ≤ limit)
unfolding fields is_field piece_of
blocks_fit t xs rest is = two_fit (bytes "(blocks ") xs (form_sound limit blocks_form t _ _ (omega arith) (sym is)).fits

-- the inputs of an operation
words_fit : (k : PartKind) (xs : List ℕ) → Fits limit (part_form k) (take (fields (part_form k)) xs) → FitsWords k xs
unfolding fields is_field piece_of FitsWords
words_fit const xs fits = tt
words_fit sphere xs fits = tt
words_fit plane xs fits = tt
words_fit min xs fits = two_fit (bytes "(min ") xs fits
words_fit max xs fits = two_fit (bytes "(max ") xs fits
words_fit add xs fits = two_fit (bytes "(add ") xs fits
words_fit sub xs fits = two_fit (bytes "(sub ") xs fits
words_fit neg xs fits = one_fits (bytes "(neg ") xs fits

-- of a part line that is read
pub line_fits : (t : List ℕ) (k : PartKind) (xs rest : List ℕ) → part (record { kind = k; numbers = take (fields (part_form k)) xs }) rest ≡ read_part t
    → FitsWords k xs
line_fits t k xs rest is = words_fit k xs (part_sound t _ _ (sym is)).fits

-- ---- kind after kind

module _ (kinds : List PartKind) (i : ℕ) (t : List ℕ) (more : i < length kinds) where
  kind_turn :
      part_among (drop i kinds) t
      ≡ or_part (get_or kinds i const) (read_form limit (part_form (get_or kinds i const)) t) (part_among (drop (i + 1) kinds) t)
  unfolding part_among
  kind_turn =
      let front : drop i kinds ≡ get_or kinds i const ∷ drop (i + 1) kinds = rw (add-one i) (drop-cons kinds i const more) in
      ap (λ (ks : List PartKind). part_among ks t) front

  pub among_off : off ≡ read_form limit (part_form (get_or kinds i const)) t → part_among (drop (i + 1) kinds) t ≡ part_among (drop i kinds) t
  unfolding or_part
  among_off is_off = sym (rw (← is_off) at kind_turn)

  pub among_found :
      (xs rest : List ℕ) → line xs rest ≡ read_form limit (part_form (get_or kinds i const)) t
      → part (record { kind = get_or kinds i const; numbers = xs }) rest ≡ part_among (drop i kinds) t
  unfolding or_part
  among_found xs rest found = sym (rw (← found) at kind_turn)

pub among_none : (kinds : List PartKind) (i : ℕ) (t : List ℕ) → i ≤ length kinds → length kinds ≤ i → none ≡ part_among (drop i kinds) t
unfolding part_among
among_none kinds i t most least = let all : i ≡ length kinds = omega arith in rw (all, drop-length kinds)
