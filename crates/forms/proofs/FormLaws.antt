-- A line of a form is read as its numbers, and what is read by a form is a line of it, with no more bytes than the form allows.
use mathlib.Core.Path.{◌≡◌, refl, sym, ap, ◌∙◌}
use Prim.Native.Nat.{ℕ, suc, ◌+◌, ◌^◌, ◌≤◌, ◌<◌}
use native.Mathlib.Omega.{arith}
use mathlib.Core.Bool.{Bool, true, false, cond}
use mathlib.Core.List.{List, [], ◌∷◌, ◌++◌, append_assoc}
use borrow.Author.Tests.{eq-eqb, ne_eqb}
use lib.ListN.{length, get_or, take, drop, length-append, length-drop}
use lib.Seq.{take_all}
use Rattle.lists.proofs.Tests.{and_left, and_right}
use Rattle.forms.specs.Digits.{hex_of, decimal_count, decimal_of}
use Rattle.forms.specs.Fronts as fronts
use Rattle.forms.specs.Forms.{Piece, hex, decimal, byte, spell_piece, is_field, after, spell, fields, Line, off, line, read_piece}
use Rattle.forms.specs.Forms.{with_number, on_front, read_form}
use Rattle.forms.specs.Fitting.{FitsPiece, Fits, Spells, most_piece, most_of}
use Rattle.forms.specs.Inner.Cuts.{ends_number, ends_decimal, separated}
use Rattle.forms.proofs.Cases.{equal_or, never}
use Rattle.forms.proofs.DigitLaws.{digits_length, count_most}
use Rattle.forms.proofs.NumberLaws.{off_number, rest_same, hex_spelled, hex_sound, decimal_spelled, decimal_sound}

-- ---- one byte

pub byte_read : (limit b c : ℕ) (t : List ℕ) → c ≡ b → read_piece limit (byte b) (c ∷ t) ≡ fronts.number 0 t
unfolding read_piece
byte_read limit b c t same = rw (eq-eqb c b same)

pub byte_other : (limit b c : ℕ) (t : List ℕ) → (c ≡ b → ⊥) → read_piece limit (byte b) (c ∷ t) ≡ fronts.off
unfolding read_piece
byte_other limit b c t other = rw (ne_eqb c b other)

-- ---- what is spelled is read

-- the text after a piece ends a decimal number
EndsAfter : Piece → List ℕ → Type 0
EndsAfter hex t = Unit
EndsAfter decimal t = ends_number t ≡ true
EndsAfter (byte b) t = Unit

-- the number that a piece is read as
kept : Piece → ℕ → ℕ
kept p x = cond (is_field p) x 0

piece_spelled : (limit : ℕ) (p : Piece) (x : ℕ) (t : List ℕ) → limit < 10 ^ 20 → FitsPiece limit p x → EndsAfter p t
    → read_piece limit p (spell_piece p x ++ t) ≡ fronts.number (kept p x) t
unfolding read_piece spell_piece FitsPiece EndsAfter kept is_field
piece_spelled limit hex x t small fits ends = hex_spelled x t fits
piece_spelled limit decimal x t small fits ends = decimal_spelled limit x t fits (omega arith) ends
piece_spelled limit (byte b) x t small fits ends = byte_read limit b b t refl

pub separated_rest : (p : Piece) (form : List Piece) → separated (p ∷ form) ≡ true → separated form ≡ true
unfolding separated
separated_rest hex form apart = apart
separated_rest decimal form apart = and_right (ends_decimal form) (separated form) apart
separated_rest (byte b) form apart = apart

ends_spelled : (form : List Piece) (xs t : List ℕ) → ends_decimal form ≡ true → ends_number (spell form xs ++ t) ≡ true
unfolding ends_decimal ends_number spell spell_piece
ends_spelled [] xs t ends = never ends
ends_spelled (hex ∷ form) xs t ends = never ends
ends_spelled (decimal ∷ form) xs t ends = never ends
ends_spelled (byte b ∷ form) xs t ends = ends

ends_after : (p : Piece) (form : List Piece) (xs t : List ℕ) → separated (p ∷ form) ≡ true → EndsAfter p (spell form xs ++ t)
unfolding EndsAfter separated
ends_after hex form xs t apart = tt
ends_after decimal form xs t apart = ends_spelled form xs t (and_left (ends_decimal form) (separated form) apart)
ends_after (byte b) form xs t apart = tt

first_more : (xs : List ℕ) (n : ℕ) → 1 + n ≤ length xs → get_or xs 0 0 ∷ take n (drop 1 xs) ≡ take (1 + n) xs
first_more [] n enough = absurd (omega arith)
first_more (x ∷ xs) n enough = let next : 1 + n ≡ suc n = omega arith in rw next

-- the numbers of a form are the first ones
own_first : (p : Piece) (form : List Piece) (xs t : List ℕ) → fields (p ∷ form) ≤ length xs
    → with_number (is_field p) (kept p (get_or xs 0 0)) (line (take (fields form) (after p xs)) t) ≡ line (take (fields (p ∷ form)) xs) t
unfolding fields is_field with_number after kept
own_first hex form xs t enough = ap (λ (l : List ℕ). line l t) (first_more xs (fields form) enough)
own_first decimal form xs t enough = ap (λ (l : List ℕ). line l t) (first_more xs (fields form) enough)
own_first (byte b) form xs t enough = refl

enough_after : (p : Piece) (form : List Piece) (xs : List ℕ) → fields (p ∷ form) ≤ length xs → fields form ≤ length (after p xs)
unfolding fields is_field after
enough_after hex form xs enough = rw (length-drop 1 xs) (omega arith)
enough_after decimal form xs enough = rw (length-drop 1 xs) (omega arith)
enough_after (byte b) form xs enough = enough

-- a line is read as the numbers that its form has
pub form_read : (limit : ℕ) (form : List Piece) (xs t : List ℕ) → limit < 10 ^ 20 → separated form ≡ true → Fits limit form xs → fields form ≤ length xs
    → read_form limit form (spell form xs ++ t) ≡ line (take (fields form) xs) t
unfolding read_form spell Fits fields on_front
form_read limit [] xs t small apart fits enough = refl
form_read limit (p ∷ form) xs t small apart fits enough =
    let rest : List ℕ = spell form (after p xs) ++ t in
    let front : read_piece limit p (spell_piece p (get_or xs 0 0) ++ rest) ≡ fronts.number (kept p (get_or xs 0 0)) rest =
    piece_spelled limit p (get_or xs 0 0) rest small fits.0 (ends_after p form (after p xs) t apart) in
    rw (append_assoc (spell_piece p (get_or xs 0 0)) (spell form (after p xs)) t, front)
    (ap (with_number (is_field p) (kept p (get_or xs 0 0)))
    (form_read limit form (after p xs) t small (separated_rest p form apart) fits.1 (enough_after p form xs enough))
    ∙ own_first p form xs t enough)

pub form_spelled : (limit : ℕ) (form : List Piece) (xs t : List ℕ) → limit < 10 ^ 20 → separated form ≡ true → Fits limit form xs → length xs ≡ fields form
    → read_form limit form (spell form xs ++ t) ≡ line xs t
form_spelled limit form xs t small apart fits count =
    form_read limit form xs t small apart fits (omega arith) ∙ ap (λ (l : List ℕ). line l t) (take_all (fields form) xs (omega arith))

-- ---- what is read was spelled

pub off_line : {A : Type 0} {xs t : List ℕ} → off ≡ line xs t → A
off_line same = let none : ◌≡◌ {A = ℕ} 0 1 = cc in absurd (omega arith)

pub numbers_same : {xs ys s t : List ℕ} → line xs s ≡ line ys t → xs ≡ ys
numbers_same same = cc

pub after_same : {xs ys s t : List ℕ} → line xs s ≡ line ys t → s ≡ t
after_same same = cc

byte_sound : (limit b x : ℕ) (t rest : List ℕ) → read_piece limit (byte b) t ≡ fronts.number x rest → t ≡ b ∷ rest
unfolding read_piece
byte_sound limit b x [] rest same = off_number same
byte_sound limit b x (c ∷ t) rest same =
    equal_or c b
    (λ is. rw (is, rest_same (sym (byte_read limit b c t is) ∙ same)))
    (λ other. off_number (sym (byte_other limit b c t other) ∙ same))

-- what is read as a piece is the piece with its number
piece_sound : (limit : ℕ) (p : Piece) (t : List ℕ) (x : ℕ) (rest : List ℕ) → limit < 10 ^ 19 → read_piece limit p t ≡ fronts.number x rest
    → (t ≡ spell_piece p x ++ rest) × FitsPiece limit p x
unfolding read_piece spell_piece FitsPiece
piece_sound limit hex t x rest small same = hex_sound t x rest same
piece_sound limit decimal t x rest small same = decimal_sound limit t x rest small same
piece_sound limit (byte b) t x rest small same = (byte_sound limit b x t rest same, tt)

joined : (front l rest : List ℕ) {t next : List ℕ} → t ≡ front ++ next → next ≡ l ++ rest → t ≡ (front ++ l) ++ rest
joined front l rest first second = first ∙ ap (λ (s : List ℕ). front ++ s) second ∙ sym (append_assoc front l rest)

-- a piece read before a line that was spelled
piece_before : (limit : ℕ) (p : Piece) (form : List Piece) (t : List ℕ) (x : ℕ) (next ys rest : List ℕ) → limit < 10 ^ 19
    → read_piece limit p t ≡ fronts.number x next → Spells limit form ys next rest → Spells limit (p ∷ form) (cond (is_field p) (x ∷ ys) ys) t rest
unfolding is_field spell spell_piece after Fits FitsPiece fields
piece_before limit hex form t x next ys rest small same s =
    let read : (t ≡ hex_of x ++ next) × (x < 2 ^ 64) = piece_sound limit hex t x next small same in
    record { text = joined (hex_of x) (spell form ys) rest read.0 s.text; fits = (read.1, s.fits); count = omega (arith, s.count) }
piece_before limit decimal form t x next ys rest small same s =
    let read : (t ≡ decimal_of x ++ next) × (x ≤ limit) = piece_sound limit decimal t x next small same in
    record { text = joined (decimal_of x) (spell form ys) rest read.0 s.text; fits = (read.1, s.fits); count = omega (arith, s.count) }
piece_before limit (byte b) form t x next ys rest small same s =
    let read : (t ≡ (b ∷ []) ++ next) × Unit {0} = piece_sound limit (byte b) t x next small same in
    record { text = joined (b ∷ []) (spell form ys) rest read.0 s.text; fits = (tt, s.fits); count = s.count }

with_number_lem : (b : Bool) (x : ℕ) (xs t : List ℕ) → with_number b x (line xs t) ≡ line (cond b (x ∷ xs) xs) t
unfolding with_number
with_number_lem true x xs t = refl
with_number_lem false x xs t = refl

module _
    (limit : ℕ) (p : Piece) (form : List Piece) (small : limit < 10 ^ 19)
    (ih : (t xs rest : List ℕ) → read_form limit form t ≡ line xs rest → Spells limit form xs t rest) where
  line_before : (t : List ℕ) (x : ℕ) (next xs rest : List ℕ) → read_piece limit p t ≡ fronts.number x next
      → (l : Line) → read_form limit form next ≡ l → with_number (is_field p) x l ≡ line xs rest → Spells limit (p ∷ form) xs t rest
  unfolding with_number
  line_before t x next xs rest front off is same = off_line same
  line_before t x next xs rest front (line ys r) is same =
      let whole : line (cond (is_field p) (x ∷ ys) ys) r ≡ line xs rest = sym (with_number_lem (is_field p) x ys r) ∙ same in
      rw (← numbers_same whole, ← after_same whole) (piece_before limit p form t x next ys r small front (ih next ys r is))

  front_before : (t xs rest : List ℕ) (f : fronts.Front) → read_piece limit p t ≡ f → on_front p f (read_form limit form) ≡ line xs rest
      → Spells limit (p ∷ form) xs t rest
  unfolding on_front
  front_before t xs rest fronts.off is same = off_line same
  front_before t xs rest (fronts.number x next) is same = line_before t x next xs rest is (read_form limit form next) refl same

pub form_sound : (limit : ℕ) (form : List Piece) (t xs rest : List ℕ) → limit < 10 ^ 19 → read_form limit form t ≡ line xs rest → Spells limit form xs t rest
unfolding read_form spell Fits fields
form_sound limit [] t xs rest small same =
    rw (← numbers_same same) (record { text = after_same same; fits = tt; count = refl })
form_sound limit (p ∷ form) t xs rest small same =
    front_before limit p form small (λ t xs rest. form_sound limit form t xs rest small) t xs rest (read_piece limit p t) refl same

-- ---- how long a line is

piece_most : (limit w : ℕ) (p : Piece) (x : ℕ) → 0 < w → limit < 10 ^ w → FitsPiece limit p x → length (spell_piece p x) ≤ most_piece w p
unfolding spell_piece FitsPiece most_piece
piece_most limit w hex x some small fits = omega (arith, digits_length 16 16 x)
piece_most limit w decimal x some small fits = omega (arith, digits_length 10 (decimal_count 19 x) x, count_most 19 w x some (omega arith))
piece_most limit w (byte b) x some small fits = omega arith

-- a piece that is read has no more bytes than it may have
pub front_most : (limit w : ℕ) (p : Piece) (t : List ℕ) (x : ℕ) (rest : List ℕ) → 0 < w → limit < 10 ^ w → limit < 10 ^ 19
    → read_piece limit p t ≡ fronts.number x rest → length t ≤ length rest + most_piece w p
front_most limit w p t x rest some small bound same =
    let read : (t ≡ spell_piece p x ++ rest) × FitsPiece limit p x = piece_sound limit p t x rest bound same in
    omega (arith, ap length read.0, length-append (spell_piece p x) rest, piece_most limit w p x some small read.1)

pub spell_length : (limit w : ℕ) (form : List Piece) (xs : List ℕ) → 0 < w → limit < 10 ^ w → Fits limit form xs → length (spell form xs) ≤ most_of w form
unfolding spell Fits most_of
spell_length limit w [] xs some small fits = omega arith
spell_length limit w (p ∷ form) xs some small fits =
    rw (length-append (spell_piece p (get_or xs 0 0)) (spell form (after p xs)))
    (omega (arith, piece_most limit w p (get_or xs 0 0) some small fits.0, spell_length limit w form (after p xs) some small fits.1))

pub form_most : (limit w : ℕ) (form : List Piece) (t xs rest : List ℕ) → 0 < w → limit < 10 ^ w → limit < 10 ^ 19 → read_form limit form t ≡ line xs rest
    → length t ≤ length rest + most_of w form
form_most limit w form t xs rest some small bound same =
    let s : Spells limit form xs t rest = form_sound limit form t xs rest bound same in
    omega (arith, ap length s.text, length-append (spell form xs) rest, spell_length limit w form xs some small s.fits)
