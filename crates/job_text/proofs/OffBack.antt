-- The other way round: a text whose lines before one are on their forms, and that one is not, is read as off its form there.
use mathlib.Core.Path.{◌≡◌, refl, sym, ap, ◌∙◌}
use Prim.Native.Nat.{ℕ, zero, suc, ◌+◌, ◌-◌, ◌≤◌, ◌<◌}
use native.Mathlib.Omega.{arith}
use mathlib.Core.Bool.{true}
use mathlib.Core.List.{List, [], ◌∷◌, ◌++◌}
use lib.ListN.{length}
use Rattle.forms.specs.Forms.{Line, off, line, read_form}
use Rattle.forms.specs.declared.Piece.{Piece}
use Rattle.forms.specs.Inner.Cuts.{separated}
use Rattle.forms.proofs.Cases.{below_or}
use Rattle.forms.proofs.FormLaws.{form_spelled}
use Rattle.job_text.specs.Lines.{limit, bounds_form, cell_form, blocks_form, band_form}
use Rattle.job_text.specs.Parts.{Spelt, PartLine, none, part, read_part}
use Rattle.job_text.specs.Reading.{Read, Parts, with_part, on_part, read_parts, on_parts, read_text}
use Rattle.job_text.specs.OnForm.{HasForm, HasPart, HasLine, Begins, start, more, OffFirst}
use Rattle.job_text.proofs.FormFacts.{bounds_apart, cell_apart, blocks_apart, band_apart, part_complete, part_some}
use Rattle.job_text.proofs.Gathering.{with_parts, with_off, with_more, parts_turn, parts_full}
use Rattle.job_text.proofs.OffLine.{has_form}
use Rattle.job_text.proofs.Sound.{part_sound}
use Rattle.job_text.proofs.TextLines.{written_with, first_off, second_off, third_off, fourth_off, then_parts}

-- ---- one line

form_read : (form : List Piece) (t rest : List ℕ) → separated form ≡ true → (has : HasForm form t rest) → read_form limit form t ≡ line has.numbers rest
form_read form t rest apart has =
    let s = has.spells in
    ap (read_form limit form) s.text ∙ form_spelled limit form has.numbers rest (omega arith) apart s.fits s.count

form_off : (form : List Piece) (t : List ℕ) → ((rest : List ℕ) → HasForm form t rest → ⊥) → read_form limit form t ≡ off
form_off form t never = by (read_form limit form t) refl
  where
    by : (l : Line) → read_form limit form t ≡ l → l ≡ off
    by off is = refl
    by (line xs rest) is = absurd (never rest (has_form form t xs rest is))

part_read : (t rest : List ℕ) → (has : HasPart t rest) → (read_part t ≡ part has.spelt rest) × (0 < length t)
part_read t rest has =
    let s = has.spells in
    let q = has.spelt in (
      ap read_part s.text ∙ part_complete q rest (record { fits = s.fits; count = s.count }),
      rw s.text (part_some q.kind q.numbers rest),
    )

part_off : (t : List ℕ) → ((rest : List ℕ) → HasPart t rest → ⊥) → read_part t ≡ none
part_off t never = by (read_part t) refl
  where
    by : (l : PartLine) → read_part t ≡ l → l ≡ none
    by none is = refl
    by (part q rest) is = absurd (never rest (record { spelt = q; spells = part_sound t q rest is }))

-- ---- part lines

-- p part lines after the fourth line
record AfterFour (t rest : List ℕ) (p : ℕ) : Type 0 where
  first : List ℕ
  four : Begins 4 t first
  spelts : List Spelt
  most : p ≤ 64
  left : read_parts 64 5 first ≡ with_parts spelts (read_parts (64 - p) (5 + p) rest)

after_four : (p : ℕ) (t rest : List ℕ) → Begins (suc (suc (suc (suc p)))) t rest → AfterFour t rest p
unfolding with_parts HasLine on_part
after_four zero t rest before = record { first = rest; four = before; spelts = []; most = omega arith; left = refl }
after_four (suc p) t rest (more {s = s} before (has, room)) =
    let a : AfterFour t s p = after_four p t s before in
    let q : Spelt = has.spelt in
    let one : 64 - p ≡ suc (64 - suc p) = omega arith in
    let next : 5 + suc p ≡ suc (5 + p) = omega arith in
    let read = part_read s rest has in
    let turned : read_parts (64 - p) (5 + p) s ≡ with_part q (read_parts (64 - suc p) (5 + suc p) rest) =
    rw (one, next) (parts_turn (64 - suc p) (5 + p) s read.1 ∙ ap (λ (l : PartLine). on_part (5 + p) l (read_parts (64 - suc p) (suc (5 + p)))) read.0) in
    record {
      first = a.first;
      four = a.four;
      spelts = a.spelts ++ (q ∷ []);
      most = omega arith;
      left = a.left ∙ ap (with_parts a.spelts) turned ∙ sym (with_more a.spelts q (read_parts (64 - suc p) (5 + suc p) rest));
    }

-- the line after them is off its form
parts_off_at :
    (p : ℕ) (rest : List ℕ) → p ≤ 64 → 0 < length rest → ((s : List ℕ) → HasPart rest s → p < 64 → ⊥)
    → read_parts (64 - p) (5 + p) rest ≡ Parts.off_at (5 + p)
unfolding on_part
parts_off_at p rest most some never =
    below_or p 64
    (λ room.
    let one : 64 - p ≡ suc (64 - suc p) = omega arith in
    rw one
    (parts_turn (64 - suc p) (5 + p) rest some
    ∙ ap (λ (l : PartLine). on_part (5 + p) l (read_parts (64 - suc p) (suc (5 + p))))
    (part_off rest (λ s has. never s has room))))
    (λ all. let none : 64 - p ≡ 0 = omega arith in rw none (parts_full (5 + p) rest some))

-- ---- the whole text

in_four : (t rest : List ℕ) (n : ℕ) → Begins 4 t rest → read_parts 64 5 rest ≡ Parts.off_at n → read_text t ≡ Read.off_at n
unfolding HasLine on_parts
in_four t rest n (more {s = t3} (more {s = t2} (more {s = t1} (more start one) two) three) four) is =
    then_parts t
    _ t1 (form_read bounds_form t t1 bounds_apart one)
    _ t2 (form_read cell_form t1 t2 cell_apart two)
    _ t3 (form_read blocks_form t2 t3 blocks_apart three)
    _ rest (form_read band_form t3 rest band_apart four)
    ∙ ap (λ (p : Parts). on_parts p (written_with one.numbers two.numbers three.numbers four.numbers)) is

off_at_lem : (t rest : List ℕ) (k : ℕ) → Begins k t rest → ((s : List ℕ) → HasLine (suc k) rest s → ⊥) → (4 ≤ k → 0 < length rest) → read_text t ≡ Read.off_at (suc k)
unfolding HasLine
off_at_lem t rest zero start never some = first_off t (form_off bounds_form t never)
off_at_lem t rest (suc zero) (more start one) never some =
    second_off t _ rest (form_read bounds_form t rest bounds_apart one) (form_off cell_form rest never)
off_at_lem t rest (suc (suc zero)) (more {s = t1} (more start one) two) never some =
    third_off t _ t1 (form_read bounds_form t t1 bounds_apart one) _ rest (form_read cell_form t1 rest cell_apart two) (form_off blocks_form rest never)
off_at_lem t rest (suc (suc (suc zero))) (more {s = t2} (more {s = t1} (more start one) two) three) never some =
    fourth_off t _ t1 (form_read bounds_form t t1 bounds_apart one) _ t2 (form_read cell_form t1 t2 cell_apart two)
    _ rest (form_read blocks_form t2 rest blocks_apart three) (form_off band_form rest never)
off_at_lem t rest (suc (suc (suc (suc p)))) before never some =
    let a : AfterFour t rest p = after_four p t rest before in
    let line : 5 + p ≡ suc (suc (suc (suc (suc p)))) = omega arith in
    let named : read_parts 64 5 a.first ≡ Parts.off_at (5 + p) =
    a.left
    ∙ ap (with_parts a.spelts) (parts_off_at p rest a.most (some (omega arith)) (λ s has room. never s (has, room)))
    ∙ with_off a.spelts (5 + p) in
    in_four t a.first _ a.four (rw line at named)

pub off_reading_lem : (t : List ℕ) (n : ℕ) → OffFirst t n → read_text t ≡ Read.off_at n
off_reading_lem t n o = rw o.number (off_at_lem t o.rest o.lines o.before o.off o.some)
