-- One turn of each loop over a form: what is left after it gives what was left before it.
use mathlib.Core.Path.{◌≡◌, refl, sym, ap, ◌∙◌}
use Prim.Native.Nat.{ℕ, zero, suc, ◌+◌, ◌-◌, ◌*◌, ◌≤◌, ◌<◌}
use native.Mathlib.Nat.{add-zero}
use native.Mathlib.Numerals.{add-one}
use native.Mathlib.Omega.{arith}
use mathlib.Core.Bool.{true, false, cond}
use mathlib.Core.List.{List, [], ◌∷◌, ◌++◌, map, append_assoc, append-nil}
use lib.ListN.{length, get_or, take, drop, set, replicate, length-append, length-set, length-replicate}
use lib.Seq.{drop-cons, drop-length, drop-drop, take-suc-set, drop-set-lt}
use Rattle.std.specs.Prelude.{unwrap_or, slice_get}
use Rattle.forms.specs.Fronts as fronts
use Rattle.forms.specs.Forms.{Piece, piece_of, is_field, spell_piece, after, spell, fields, Line, off, line, read_piece, with_number, on_front, read_form}
use Rattle.forms.proofs.Pieces.{piece_widest}

pub drop_here : (text : List ℕ) (place : ℕ) → place < length text → drop place text ≡ get_or text place 0 ∷ drop (place + 1) text
drop_here text place inside = rw (add-one place) (drop-cons text place 0 inside)

pub drop_end : (text : List ℕ) (place : ℕ) → place ≤ length text → length text ≤ place → drop place text ≡ []
drop_end text place within past = let all : place ≡ length text = omega arith in rw all (drop-length text)

-- the pieces of a form from a place on
abbrev pub pieces_from : List ℕ → ℕ → List Piece
pieces_from form i = map piece_of (drop i form)

pub pieces_turn : (form : List ℕ) (i : ℕ) → i < length form → pieces_from form i ≡ piece_of (get_or form i 0) ∷ pieces_from form (i + 1)
pieces_turn form i more = ap (map piece_of) (drop_here form i more)

pub pieces_done : (form : List ℕ) (i : ℕ) → i ≤ length form → length form ≤ i → pieces_from form i ≡ []
pieces_done form i within past = ap (map piece_of) (drop_end form i within past)

-- ---- writing

pub spell_turn :
    (form xs : List ℕ) (i : ℕ) → i < length form → (p : Piece) → p ≡ piece_of (get_or form i 0) → (x : ℕ) → x ≡ get_or xs 0 0
    → (ys : List ℕ) → ys ≡ after p xs
    → spell (pieces_from form i) xs ≡ spell_piece p x ++ spell (pieces_from form (i + 1)) ys
unfolding spell
spell_turn form xs i more p piece x number ys left = rw (pieces_turn form i more, number, left, piece)

pub spell_done : (form xs : List ℕ) (i : ℕ) → i ≤ length form → length form ≤ i → spell (pieces_from form i) xs ≡ []
unfolding spell
spell_done form xs i within past = rw (pieces_done form i within past)

pub first_number : (xs : List ℕ) → unwrap_or (slice_get xs 0) 0 ≡ get_or xs 0 0
first_number [] = refl
first_number (x ∷ xs) = refl

-- a piece has at most 20 bytes
pub spell_most : (form : List Piece) (xs : List ℕ) → length (spell form xs) ≤ 20 * length form
unfolding spell
spell_most [] xs = omega arith
spell_most (p ∷ form) xs =
    omega (
      arith,
      length-append (spell_piece p (get_or xs 0 0)) (spell form (after p xs)),
      piece_widest p (get_or xs 0 0),
      spell_most form (after p xs),
    )

-- ---- reading

-- a line with more numbers in front
unfoldable pub with_numbers : List ℕ → Line → Line
with_numbers ys off = off
with_numbers ys (line xs t) = line (ys ++ xs) t

with_none : (l : Line) → with_numbers [] l ≡ l
unfolding with_numbers
with_none off = refl
with_none (line xs t) = refl

with_last : (ys : List ℕ) (x : ℕ) (l : Line) → with_numbers (ys ++ (x ∷ [])) l ≡ with_numbers ys (with_number true x l)
unfolding with_numbers with_number
with_last ys x off = refl
with_last ys x (line xs t) = rw (append_assoc ys (x ∷ []) xs)

without : (x : ℕ) (l : Line) → with_number false x l ≡ l
unfolding with_number
without x off = refl
without x (line xs t) = refl

-- with the numbers kept so far, what is left to read gives what the whole gives
pub record Kept (n limit : ℕ) (text form rest : List ℕ) (i count : ℕ) (numbers : List ℕ) : Type 0 where
  pub whole : with_numbers (take count numbers) (read_form limit (pieces_from form i) rest) ≡ read_form limit (map piece_of form) text
  pub count_left : count + fields (pieces_from form i) ≡ fields (map piece_of form)
  pub zeros : drop count numbers ≡ replicate (n - count) 0
  pub size : length numbers ≡ n

pub kept_first : (n limit : ℕ) (text form : List ℕ) → Kept n limit text form text 0 0 (replicate n 0)
kept_first n limit text form =
    let all : n - 0 ≡ n = omega arith in
    record { whole = with_none (read_form limit (map piece_of form) text); count_left = omega arith; zeros = rw all; size = length-replicate n 0 }

drop_zeros : (n : ℕ) → drop {A = ℕ} 1 (replicate n 0) ≡ replicate (n - 1) 0
drop_zeros zero = refl
drop_zeros (suc n) = let less : suc n - 1 ≡ n = omega arith in rw less

module _
    {n limit : ℕ} {text form rest : List ℕ} {i count : ℕ} {numbers : List ℕ} (more : i < length form) (p : Piece) (piece : p ≡ piece_of (get_or form i 0))
    (k : Kept n limit text form rest i count numbers) where
  here : pieces_from form i ≡ p ∷ pieces_from form (i + 1)
  here = rw piece (pieces_turn form i more)

  -- a piece with a number takes one of those that are left
  fields_turn : fields (pieces_from form i) ≡ cond (is_field p) (1 + fields (pieces_from form (i + 1))) (fields (pieces_from form (i + 1)))
  unfolding fields
  fields_turn = rw here

  pub kept_room : fields (map piece_of form) ≤ n → is_field p ≡ true → count < n
  kept_room few is = omega (arith, k.count_left, rw is at fields_turn)

  pub kept_off : read_piece limit p rest ≡ fronts.off → off ≡ read_form limit (map piece_of form) text
  unfolding read_form on_front with_numbers
  kept_off none = rw (here, none) at k.whole

  module _ (x : ℕ) (next : List ℕ) (read : read_piece limit p rest ≡ fronts.number x next) where
    read_turn : read_form limit (pieces_from form i) rest ≡ with_number (is_field p) x (read_form limit (pieces_from form (i + 1)) next)
    unfolding read_form on_front
    read_turn = rw (here, read)

    pub kept_number :
        fields (map piece_of form) ≤ n → is_field p ≡ true
        → Kept n limit text form next (i + 1) (count + 1) (set numbers count x)
    kept_number few is =
        let room : count < length numbers = omega (arith, kept_room few is, k.size) in
        let first : take (count + 1) (set numbers count x) ≡ take count numbers ++ (x ∷ []) = rw (add-one count) (take-suc-set numbers count x room) in
        let less : n - (count + 1) ≡ n - count - 1 = omega arith in
        let left : Line = read_form limit (pieces_from form (i + 1)) next in
        record {
          whole = rw (first, with_last (take count numbers) x left) (ap (with_numbers (take count numbers)) (sym (rw is at read_turn)) ∙ k.whole);
          count_left = omega (arith, k.count_left, rw is at fields_turn);
          zeros = rw (drop-set-lt (count + 1) numbers count x (omega arith), less, ← drop-drop 1 count numbers, k.zeros) (drop_zeros (n - count));
          size = length-set numbers count x ∙ k.size;
        }

    pub kept_byte : is_field p ≡ false → Kept n limit text form next (i + 1) count numbers
    kept_byte is =
        let left : Line = read_form limit (pieces_from form (i + 1)) next in
        record {
          whole = ap (with_numbers (take count numbers)) (sym (without x left) ∙ sym (rw is at read_turn)) ∙ k.whole;
          count_left = omega (arith, k.count_left, rw is at fields_turn);
          zeros = k.zeros;
          size = k.size;
        }

module _
    {n limit : ℕ} {text form rest : List ℕ} {i count : ℕ} {numbers : List ℕ} (within : i ≤ length form) (past : length form ≤ i)
    (k : Kept n limit text form rest i count numbers) where
  kept_all : fields (map piece_of form) ≡ count
  unfolding fields
  kept_all =
      let none : pieces_from form i ≡ [] = pieces_done form i within past in
      sym (rw none at k.count_left) ∙ add-zero count

  pub kept_line : line (take (fields (map piece_of form)) numbers) rest ≡ read_form limit (map piece_of form) text
  unfolding read_form with_numbers
  kept_line =
      let none : pieces_from form i ≡ [] = pieces_done form i within past in
      rw kept_all (rw (none, append-nil (take count numbers)) at k.whole)

  pub kept_zeros : drop (fields (map piece_of form)) numbers ≡ replicate (n - fields (map piece_of form)) 0
  kept_zeros = rw kept_all k.zeros
