-- WHAT A LINE OFF ITS FORM MEANS: the lines before it are on theirs, and it is not.
use mathlib.Core.Path.{◌≡◌, refl, sym, ap, ◌∙◌}
use Prim.Native.Nat.{ℕ, zero, suc, ◌+◌, ◌<◌}
use native.Mathlib.Omega.{arith}
use mathlib.Core.Bool.{true}
use mathlib.Core.List.{List, [], ◌∷◌}
use Rattle.forms.specs.Forms.{Line, off, line, read_form}
use Rattle.forms.specs.declared.Piece.{Piece}
use Rattle.forms.specs.Inner.Cuts.{separated}
use Rattle.forms.proofs.FormLaws.{form_sound, form_spelled, off_line}
use Rattle.job_text.specs.Lines.{limit, bounds_form, cell_form, blocks_form, band_form}
use Rattle.job_text.specs.Parts.{Spelt, PartLine, none, part, read_part}
use Rattle.job_text.specs.Reading.{Read, Parts, parts, with_part, on_part, read_parts, on_line, on_parts, read_text}
use Rattle.job_text.specs.OnForm.{HasForm, HasPart, HasLine, Begins, start, more, OffFirst}
use Rattle.job_text.proofs.FormFacts.{bounds_apart, cell_apart, blocks_apart, band_apart, part_complete}
use Rattle.job_text.proofs.Sound.{part_sound}
use Rattle.job_text.proofs.TextLines.{written_with}

-- ---- one line

-- a text that is read off a form has no line of it
no_form : (form : List Piece) (t : List ℕ) → separated form ≡ true → read_form limit form t ≡ off → (rest : List ℕ) → HasForm form t rest → ⊥
no_form form t apart is rest has =
    let s = has.spells in
    off_line (sym is ∙ ap (read_form limit form) s.text ∙ form_spelled limit form has.numbers rest (omega arith) apart s.fits s.count)

pub has_form : (form : List Piece) (t xs rest : List ℕ) → read_form limit form t ≡ line xs rest → HasForm form t rest
has_form form t xs rest is = record { numbers = xs; spells = form_sound limit form t xs rest (omega arith) is }

no_part : (t : List ℕ) → read_part t ≡ none → (rest : List ℕ) → HasPart t rest → ⊥
no_part t is rest has =
    let s = has.spells in
    let read : read_part t ≡ part has.spelt rest =
    ap read_part s.text ∙ part_complete has.spelt rest (record { fits = s.fits; count = s.count }) in
    let never : ◌≡◌ {A = ℕ} 0 1 = cc in omega arith

-- ---- part lines

parts_off_never : {A : Type 0} {n : ℕ} {ss : List Spelt} → parts ss ≡ Parts.off_at n → A
parts_off_never same = let never : ◌≡◌ {A = ℕ} 0 1 = cc in absurd (omega arith)

-- the line named among part lines, of which p are passed and r may follow
parts_off : (t : List ℕ) (r p : ℕ) (s : List ℕ) (n : ℕ) → r + p ≡ 64 → Begins (suc (suc (suc (suc p)))) t s
    → read_parts r (suc (suc (suc (suc (suc p))))) s ≡ Parts.off_at n → OffFirst t n
unfolding read_parts on_part with_part HasLine
parts_off t zero p [] n count before is = parts_off_never is
parts_off t zero p (b ∷ s) n count before is =
    let line : suc (suc (suc (suc (suc p)))) ≡ n = cc in
    record {
      lines = suc (suc (suc (suc p)));
      number = sym line;
      rest = b ∷ s;
      before = before;
      off = λ s has. omega (arith, has.1);
      some = λ many. omega arith;
    }
parts_off t (suc r) p [] n count before is = parts_off_never is
parts_off t (suc r) p (b ∷ s) n count before is = by (λ rest. parts_off t r (suc p) rest n (omega arith)) (read_part (b ∷ s)) refl is
  where
    line : ℕ
    line = suc (suc (suc (suc (suc p))))

    Rest : Type 0
    Rest = (rest : List ℕ) → Begins line t rest → read_parts r (suc line) rest ≡ Parts.off_at n → OffFirst t n

    after :
        Rest → (q : Spelt) (rest : List ℕ) → read_part (b ∷ s) ≡ part q rest → (l : Parts)
        → read_parts r (suc line) rest ≡ l → with_part q l ≡ Parts.off_at n → OffFirst t n
    after ih q rest first (Parts.off_at m) is same =
        ih rest (more before (record { spelt = q; spells = part_sound (b ∷ s) q rest first }, omega arith)) (is ∙ same)
    after ih q rest first (parts ss) is same = parts_off_never same

    by : Rest → (l : PartLine) → read_part (b ∷ s) ≡ l → on_part line l (read_parts r (suc line)) ≡ Parts.off_at n → OffFirst t n
    by ih none is same =
        let named : line ≡ n = cc in
        record {
          lines = suc (suc (suc (suc p)));
          number = sym named;
          rest = b ∷ s;
          before = before;
          off = λ rest has. no_part (b ∷ s) is rest has.0;
          some = λ many. omega arith;
        }
    by ih (part q rest) is same = after ih q rest is (read_parts r (suc line) rest) refl same

-- ---- the whole text

module _ (t : List ℕ) (n : ℕ) where
  -- a line is off its form, or what follows is
  line_cases : (m : ℕ) (form : List Piece) (s : List ℕ) (next : List ℕ → List ℕ → Read) → on_line m (read_form limit form s) next ≡ Read.off_at n
      → (read_form limit form s ≡ off → m ≡ n → OffFirst t n)
      → ((xs rest : List ℕ) → read_form limit form s ≡ line xs rest → next xs rest ≡ Read.off_at n → OffFirst t n) → OffFirst t n
  unfolding on_line
  line_cases m form s next same here later = by (read_form limit form s) refl same
    where
      by : (l : Line) → read_form limit form s ≡ l → on_line m l next ≡ Read.off_at n → OffFirst t n
      by off is same = here is (cc)
      by (line xs rest) is same = later xs rest is same

  -- one of the first four lines
  off_here : (k : ℕ) (form : List Piece) (s : List ℕ) → k < 4 → Begins k t s → separated form ≡ true
      → ((rest : List ℕ) → HasLine (suc k) s rest → HasForm form s rest) → read_form limit form s ≡ off → suc k ≡ n → OffFirst t n
  off_here k form s few before apart has is named =
      record {
        lines = k;
        number = sym named;
        rest = s;
        before = before;
        off = λ rest line. no_form form s apart is rest (has rest line);
        some = λ many. absurd (omega arith);
      }

  in_parts : (s : List ℕ) (bounds cell blocks band : List ℕ) → Begins 4 t s → (p : Parts) → read_parts 64 5 s ≡ p
      → on_parts p (written_with bounds cell blocks band) ≡ Read.off_at n → OffFirst t n
  unfolding on_parts
  in_parts s bounds cell blocks band before (Parts.off_at m) is same = let named : m ≡ n = cc in parts_off t 64 0 s n refl before (is ∙ ap Parts.off_at named)
  in_parts s bounds cell blocks band before (parts ss) is same = let never : ◌≡◌ {A = ℕ} 0 1 = cc in absurd (omega arith)

  pub reading_off : read_text t ≡ Read.off_at n → OffFirst t n
  unfolding read_text HasLine
  reading_off same =
      line_cases 1 bounds_form t _ same (off_here 0 bounds_form t (omega arith) start bounds_apart (λ rest has. has)) λ bounds t1 one second.
      let one_line : Begins 1 t t1 = more start (has_form bounds_form t bounds t1 one) in
      line_cases 2 cell_form t1 _ second (off_here 1 cell_form t1 (omega arith) one_line cell_apart (λ rest has. has)) λ cell t2 two third.
      let two_lines : Begins 2 t t2 = more one_line (has_form cell_form t1 cell t2 two) in
      line_cases 3 blocks_form t2 _ third (off_here 2 blocks_form t2 (omega arith) two_lines blocks_apart (λ rest has. has)) λ blocks t3 three fourth.
      let three_lines : Begins 3 t t3 = more two_lines (has_form blocks_form t2 blocks t3 three) in
      line_cases 4 band_form t3 _ fourth (off_here 3 band_form t3 (omega arith) three_lines band_apart (λ rest has. has)) λ band t4 four last.
      let four_lines : Begins 4 t t4 = more three_lines (has_form band_form t3 band t4 four) in
      in_parts t4 bounds cell blocks band four_lines (read_parts 64 5 t4) refl last
