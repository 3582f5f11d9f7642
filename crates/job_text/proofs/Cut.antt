-- THE FIRST 5,148 BYTES DECIDE: a text is read as its first 5,148 bytes are.
use mathlib.Core.Path.{◌≡◌, refl, ap}
use Prim.Native.Nat.{ℕ, zero, suc, ◌+◌, ◌-◌, ◌*◌, ◌≤◌, ◌<◌}
use native.Mathlib.Omega.{arith}
use mathlib.Core.Bool.{true}
use mathlib.Core.List.{List, [], ◌∷◌}
use lib.ListN.{length, take}
use Rattle.forms.specs.Forms.{Line, off, line, read_form}
use Rattle.forms.specs.declared.Piece.{Piece}
use Rattle.forms.specs.Fitting.{most}
use Rattle.forms.specs.Inner.Cuts.{separated}
use Rattle.forms.proofs.FormLaws.{form_most}
use Rattle.forms.proofs.CutLaws.{off_cut, line_cut}
use Rattle.job_text.specs.Lines.{limit, bounds_form, cell_form, blocks_form, band_form, PartKind, part_form, part_kinds}
use Rattle.job_text.specs.Parts.{PartLine, none, part, or_part, part_among, read_part}
use Rattle.job_text.specs.Reading.{Read, Parts, with_part, on_part, read_parts, on_line, on_parts, read_text}
use Rattle.job_text.proofs.FormFacts.{bounds_apart, cell_apart, blocks_apart, band_apart, part_apart, bounds_most, cell_most}
use Rattle.job_text.proofs.FormFacts.{blocks_most, band_most, part_most}
use Rattle.job_text.proofs.TextLines.{written_with}

-- what is left of m bytes of a text, where the text goes on with the rest
left : (m : ℕ) → (t rest : List ℕ) → ℕ
left m t rest = m + length rest - length t

-- ---- a line that at most `most` bytes decide

-- a line of at most `size` bytes is read of the first m bytes, and so many are left
module _ (form : List Piece) (size m : ℕ) (t : List ℕ) (apart : separated form ≡ true) (small : most form ≤ size) (enough : size ≤ m) where
  cut_off : read_form limit form t ≡ off → read_form limit form (take m t) ≡ off
  cut_off is = off_cut limit 10 (omega arith) (omega arith) (omega arith) form m t apart (omega arith) is

  cut_line : (xs rest : List ℕ) → read_form limit form t ≡ line xs rest → read_form limit form (take m t) ≡ line xs (take (left m t rest) rest)
  unfolding left
  cut_line xs rest is = line_cut limit 10 (omega arith) (omega arith) (omega arith) form m t apart (omega arith) xs rest is

  cut_left : (xs rest : List ℕ) → read_form limit form t ≡ line xs rest → m ≤ left m t rest + size
  unfolding left
  cut_left xs rest is = omega (arith, form_most limit 10 form t xs rest (omega arith) (omega arith) (omega arith) is)

-- ---- part lines

-- what is read of the first m bytes, where the whole is read so
PartCut : (m : ℕ) → (t cut : List ℕ) → (ks : List PartKind) → PartLine → Type 0
PartCut m t cut ks none = part_among ks cut ≡ none
PartCut m t cut ks (part s rest) = (part_among ks cut ≡ part s (take (left m t rest) rest)) × (m ≤ left m t rest + 77)

among_cut : (ks : List PartKind) (m : ℕ) (t : List ℕ) → 77 ≤ m → PartCut m t (take m t) ks (part_among ks t)
unfolding part_among PartCut or_part
among_cut [] m t enough = refl
among_cut (k ∷ ks) m t enough = by (among_cut ks m t enough) (read_form limit (part_form k) t) refl
  where
    others : read_form limit (part_form k) t ≡ off → (l : PartLine) → PartCut m t (take m t) ks l → PartCut m t (take m t) (k ∷ ks) l
    others is none cut = rw (cut_off (part_form k) 77 m t (part_apart k) (part_most k) enough is) cut
    others is (part s rest) cut = (rw (cut_off (part_form k) 77 m t (part_apart k) (part_most k) enough is) cut.0, cut.1)

    by :
        PartCut m t (take m t) ks (part_among ks t) → (l : Line) → read_form limit (part_form k) t ≡ l
        → PartCut m t (take m t) (k ∷ ks) (or_part k l (part_among ks t))
    by ih off is = others is (part_among ks t) ih
    by ih (line xs rest) is = (
      rw (cut_line (part_form k) 77 m t (part_apart k) (part_most k) enough xs rest is),
      cut_left (part_form k) 77 m t (part_apart k) (part_most k) enough xs rest is,
    )

pub parts_cut : (r n m : ℕ) (t : List ℕ) → 77 * r < m → read_parts r n (take m t) ≡ read_parts r n t
unfolding read_parts PartCut on_part
parts_cut zero n zero t enough = absurd (omega arith)
parts_cut zero n (suc m) [] enough = refl
parts_cut zero n (suc m) (b ∷ t) enough = refl
parts_cut (suc r) n zero t enough = absurd (omega arith)
parts_cut (suc r) n (suc m) [] enough = refl
parts_cut (suc r) n (suc m) (b ∷ t) enough = by (λ k s. parts_cut r (suc n) k s) (read_part (b ∷ t)) (among_cut part_kinds (suc m) (b ∷ t) (omega arith))
  where
    by :
        ((k : ℕ) (s : List ℕ) → 77 * r < k → read_parts r (suc n) (take k s) ≡ read_parts r (suc n) s) → (l : PartLine)
        → PartCut (suc m) (b ∷ t) (take (suc m) (b ∷ t)) part_kinds l
        → on_part n (read_part (take (suc m) (b ∷ t))) (read_parts r (suc n)) ≡ on_part n l (read_parts r (suc n))
    by ih none cut = rw cut
    by ih (part s rest) cut = rw cut.0 (ap (with_part s) (ih (left (suc m) (b ∷ t) rest) rest (omega (arith, cut.1))))

-- ---- the whole text

-- a line, where what follows needs no more than `more` bytes
line_then :
    (n : ℕ) (form : List Piece) (size more m : ℕ) (t : List ℕ) (next : List ℕ → List ℕ → Read) → separated form ≡ true
    → most form ≤ size → size + more ≤ m
    → ((xs rest : List ℕ) (k : ℕ) → more ≤ k → next xs (take k rest) ≡ next xs rest)
    → on_line n (read_form limit form (take m t)) next ≡ on_line n (read_form limit form t) next
unfolding on_line
line_then n form size more m t next apart small enough ih = by (read_form limit form t) refl
  where
    by : (l : Line) → read_form limit form t ≡ l → on_line n (read_form limit form (take m t)) next ≡ on_line n l next
    by off is = rw (cut_off form size m t apart small (omega arith) is)
    by (line xs rest) is =
        rw (cut_line form size m t apart small (omega arith) xs rest is)
        (ih xs rest (left m t rest) (omega (arith, cut_left form size m t apart small (omega arith) xs rest is)))

pub first_5148 : (t : List ℕ) → read_text (take 5148 t) ≡ read_text t
unfolding read_text
first_5148 t =
    line_then 1 bounds_form 123 5025 5148 t _ bounds_apart (omega (arith, bounds_most)) (omega arith) λ bounds t1 k1 m1.
    line_then 2 cell_form 24 5001 k1 t1 _ cell_apart (omega (arith, cell_most)) (omega arith) λ cell t2 k2 m2.
    line_then 3 blocks_form 31 4970 k2 t2 _ blocks_apart (omega (arith, blocks_most)) (omega arith) λ blocks t3 k3 m3.
    line_then 4 band_form 41 4929 k3 t3 _ band_apart (omega (arith, band_most)) (omega arith) λ band t4 k4 m4.
    ap (λ (p : Parts). on_parts p (written_with bounds cell blocks band)) (parts_cut 64 5 k4 t4 (omega arith))
