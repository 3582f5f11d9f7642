-- READING IS SOUND: what is read as a job is the job's text, on its form.
use mathlib.Core.Path.{◌≡◌, refl, ap, ◌∙◌}
use Prim.Native.Nat.{ℕ, zero, suc, ◌≤◌}
use native.Mathlib.Omega.{arith}
use mathlib.Core.List.{List, [], ◌∷◌, ◌++◌}
use lib.ListN.{length}
use Rattle.forms.specs.Forms.{spell, Line, off, line, read_form}
use Rattle.forms.specs.declared.Piece.{Piece}
use Rattle.forms.specs.Fitting.{Spells}
use Rattle.forms.proofs.FormLaws.{form_sound}
use Rattle.job_text.specs.Lines.{limit, bounds_form, cell_form, blocks_form, band_form, PartKind, part_form, part_kinds}
use Rattle.job_text.specs.Parts.{Spelt, PartLine, none, part, or_part, part_among, read_part}
use Rattle.job_text.specs.Reading.{Written, Read, written, Parts, parts, with_part, on_part, read_parts, on_line, on_parts, read_text}
use Rattle.job_text.specs.Texts.{parts_text, text_of}
use Rattle.job_text.specs.OnForm.{OnForm, OnParts, OnForms}
use Rattle.job_text.proofs.TextLines.{written_with}

-- ---- part lines

none_part : {A : Type 0} {s : Spelt} {t : List ℕ} → none ≡ part s t → A
none_part same = let never : ◌≡◌ {A = ℕ} 0 1 = cc in absurd (omega arith)

among_sound : (ks : List PartKind) (t : List ℕ) (s : Spelt) (rest : List ℕ) → part_among ks t ≡ part s rest
    → Spells limit (part_form s.kind) s.numbers t rest
unfolding part_among or_part
among_sound [] t s rest same = none_part same
among_sound (k ∷ ks) t s rest same = by (among_sound ks t s rest) (read_form limit (part_form k) t) refl same
  where
    by : (part_among ks t ≡ part s rest → Spells limit (part_form s.kind) s.numbers t rest)
        → (l : Line) → read_form limit (part_form k) t ≡ l → or_part k l (part_among ks t) ≡ part s rest → Spells limit (part_form s.kind) s.numbers t rest
    by ih off is same = ih same
    by ih (line xs r) is same =
        let spelt : record { kind = k; numbers = xs } ≡ s = cc in
        let after : r ≡ rest = cc in
        rw (← spelt, ← after) (form_sound limit (part_form k) t xs r (omega arith) is)

pub part_sound : (t : List ℕ) (s : Spelt) (rest : List ℕ) → read_part t ≡ part s rest → Spells limit (part_form s.kind) s.numbers t rest
part_sound t s rest same = among_sound part_kinds t s rest same

-- what a text of part lines is, with its parts
pub record PartsText (t : List ℕ) (ss : List Spelt) (r : ℕ) : Type 0 where
  pub text : t ≡ parts_text ss
  pub on : OnParts ss
  pub most : length ss ≤ r

off_parts : {A : Type 0} {n : ℕ} {ss : List Spelt} → Parts.off_at n ≡ parts ss → A
off_parts same = let never : ◌≡◌ {A = ℕ} 0 1 = cc in absurd (omega arith)

no_parts : (r : ℕ) (ss : List Spelt) → parts [] ≡ parts ss → PartsText [] ss r
unfolding parts_text OnParts
no_parts r ss same = let none : [] ≡ ss = cc in rw (← none) (record { text = refl; on = tt; most = omega arith })

pub parts_sound : (r n : ℕ) (t : List ℕ) (ss : List Spelt) → read_parts r n t ≡ parts ss → PartsText t ss r
unfolding read_parts with_part parts_text OnParts on_part
parts_sound zero n [] ss same = no_parts zero ss same
parts_sound zero n (b ∷ t) ss same = off_parts same
parts_sound (suc r) n [] ss same = no_parts (suc r) ss same
parts_sound (suc r) n (b ∷ t) ss same = by (λ rest ts. parts_sound r (suc n) rest ts) (read_part (b ∷ t)) refl same
  where
    Rest : Type 0
    Rest = (rest : List ℕ) (ts : List Spelt) → read_parts r (suc n) rest ≡ parts ts → PartsText rest ts r

    joined :
        Rest → (s : Spelt) (rest : List ℕ) → read_part (b ∷ t) ≡ part s rest → (p : Parts)
        → read_parts r (suc n) rest ≡ p → with_part s p ≡ parts ss → PartsText (b ∷ t) ss (suc r)
    joined ih s rest first (Parts.off_at m) is same = off_parts same
    joined ih s rest first (parts ts) is same =
        let one : Spells limit (part_form s.kind) s.numbers (b ∷ t) rest = part_sound (b ∷ t) s rest first in
        let others : PartsText rest ts r = ih rest ts is in
        let all : s ∷ ts ≡ ss = cc in
        rw (← all)
        (record {
          text = one.text ∙ ap (λ (l : List ℕ). spell (part_form s.kind) s.numbers ++ l) others.text;
          on = (record { fits = one.fits; count = one.count }, others.on);
          most = omega (arith, others.most);
        })

    by : Rest → (l : PartLine) → read_part (b ∷ t) ≡ l → on_part n l (read_parts r (suc n)) ≡ parts ss → PartsText (b ∷ t) ss (suc r)
    by ih none is same = off_parts same
    by ih (part s rest) is same = joined ih s rest is (read_parts r (suc n) rest) refl same

-- ---- the whole text

-- a job's text, on its form
pub record IsText (t : List ℕ) (w : Written) : Type 0 where
  pub text : t ≡ text_of w
  pub on : OnForms w

off_written : {A : Type 0} {n : ℕ} {w : Written} → Read.off_at n ≡ written w → A
off_written same = let never : ◌≡◌ {A = ℕ} 0 1 = cc in absurd (omega arith)

on_line_lem : (form : List Piece) (t xs rest : List ℕ) → read_form limit form t ≡ line xs rest → (t ≡ spell form xs ++ rest) × OnForm form xs
on_line_lem form t xs rest is =
    let s : Spells limit form xs t rest = form_sound limit form t xs rest (omega arith) is in
    (s.text, record { fits = s.fits; count = s.count })

after : (front : List ℕ) {s t : List ℕ} → s ≡ t → front ++ s ≡ front ++ t
after front same = ap (λ (l : List ℕ). front ++ l) same

module _ (t : List ℕ) (w : Written) where
  all_sound : (bounds t1 cell t2 blocks t3 band t4 : List ℕ) → read_form limit bounds_form t ≡ line bounds t1 → read_form limit cell_form t1 ≡ line cell t2
      → read_form limit blocks_form t2 ≡ line blocks t3 → read_form limit band_form t3 ≡ line band t4
      → (p : Parts) → read_parts 64 5 t4 ≡ p → on_parts p (written_with bounds cell blocks band) ≡ written w → IsText t w
  unfolding on_parts text_of
  all_sound bounds t1 cell t2 blocks t3 band t4 one two three four (Parts.off_at n) is same = off_written same
  all_sound bounds t1 cell t2 blocks t3 band t4 one two three four (parts ss) is same =
      let a = on_line_lem bounds_form t bounds t1 one in
      let b = on_line_lem cell_form t1 cell t2 two in
      let c = on_line_lem blocks_form t2 blocks t3 three in
      let d = on_line_lem band_form t3 band t4 four in
      let e : PartsText t4 ss 64 = parts_sound 64 5 t4 ss is in
      let whole : written_with bounds cell blocks band ss ≡ w = cc in
      rw (← whole)
      (record {
        text =
            a.0
            ∙ after (spell bounds_form bounds)
            (b.0 ∙ after (spell cell_form cell) (c.0 ∙ after (spell blocks_form blocks) (d.0 ∙ after (spell band_form band) e.text)));
        on = record { bounds = a.1; cell = b.1; blocks = c.1; band = d.1; parts = e.on; most = e.most };
      })

  -- a text that is read as a job has this line
  line_cases : (n : ℕ) (form : List Piece) (s : List ℕ) (next : List ℕ → List ℕ → Read) → on_line n (read_form limit form s) next ≡ written w
      → ((xs rest : List ℕ) → read_form limit form s ≡ line xs rest → next xs rest ≡ written w → IsText t w) → IsText t w
  unfolding on_line
  line_cases n form s next same found = by (read_form limit form s) refl same
    where
      by : (l : Line) → read_form limit form s ≡ l → on_line n l next ≡ written w → IsText t w
      by off is same = off_written same
      by (line xs rest) is same = found xs rest is same

  pub reading_sound : read_text t ≡ written w → IsText t w
  unfolding read_text
  reading_sound same =
      line_cases 1 bounds_form t _ same λ bounds t1 one second.
      line_cases 2 cell_form t1 _ second λ cell t2 two third.
      line_cases 3 blocks_form t2 _ third λ blocks t3 three fourth.
      line_cases 4 band_form t3 _ fourth λ band t4 four rest.
      all_sound bounds t1 cell t2 blocks t3 band t4 one two three four (read_parts 64 5 t4) refl rest
