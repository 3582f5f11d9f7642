-- READING IS COMPLETE: the text of a job is read as the job.
use mathlib.Core.Path.{refl, ◌≡◌, ap, ◌∙◌}
use Prim.Native.Nat.{ℕ, zero, suc, ◌≤◌}
use native.Mathlib.Omega.{arith}
use mathlib.Core.Bool.{true}
use mathlib.Core.List.{List, [], ◌∷◌, ◌++◌}
use lib.ListN.{length}
use Rattle.forms.specs.Forms.{spell, line, read_form}
use Rattle.forms.specs.declared.Piece.{Piece}
use Rattle.forms.specs.Inner.Cuts.{separated}
use Rattle.forms.proofs.FormLaws.{form_spelled}
use Rattle.job_text.specs.Lines.{limit, bounds_form, cell_form, blocks_form, band_form, part_form}
use Rattle.job_text.specs.Parts.{Spelt, PartLine}
use Rattle.job_text.specs.Reading.{Written, written, Parts, parts, with_part, on_part, read_parts, on_parts, read_text}
use Rattle.job_text.specs.Texts.{parts_text, text_of}
use Rattle.job_text.specs.OnForm.{OnForm, OnParts, OnForms}
use Rattle.job_text.proofs.FormFacts.{bounds_apart, cell_apart, blocks_apart, band_apart, part_complete, part_some}
use Rattle.job_text.proofs.Gathering.{parts_turn, parts_end}
use Rattle.job_text.proofs.TextLines.{written_with, then_parts}

pub parts_complete : (ss : List Spelt) (r n : ℕ) → OnParts ss → length ss ≤ r → read_parts r n (parts_text ss) ≡ parts ss
unfolding parts_text OnParts on_part with_part
parts_complete [] r n on most = parts_end r n [] refl
parts_complete (s ∷ ss) zero n on most = absurd (omega arith)
parts_complete (s ∷ ss) (suc r) n on most =
    let t : List ℕ = parts_text ss in
    let whole : List ℕ = spell (part_form s.kind) s.numbers ++ t in
    parts_turn r n whole (part_some s.kind s.numbers t)
    ∙ ap (λ (l : PartLine). on_part n l (read_parts r (suc n))) (part_complete s t on.0)
    ∙ ap (with_part s) (parts_complete ss r (suc n) on.1 (omega arith))

line_complete : (form : List Piece) (xs t : List ℕ) → separated form ≡ true → OnForm form xs → read_form limit form (spell form xs ++ t) ≡ line xs t
line_complete form xs t apart on = form_spelled limit form xs t (omega arith) apart on.fits on.count

pub reading_complete : (w : Written) → OnForms w → read_text (text_of w) ≡ written w
unfolding text_of on_parts
reading_complete w on =
    then_parts (text_of w)
    w.bounds _ (line_complete bounds_form w.bounds _ bounds_apart on.bounds)
    w.cell _ (line_complete cell_form w.cell _ cell_apart on.cell)
    w.blocks _ (line_complete blocks_form w.blocks _ blocks_apart on.blocks)
    w.band _ (line_complete band_form w.band (parts_text w.parts) band_apart on.band)
    ∙ ap (λ (p : Parts). on_parts p (written_with w.bounds w.cell w.blocks w.band)) (parts_complete w.parts 64 5 on.parts on.most)
