-- Rows of 64 entries: what stands at a part's place, and how a loop over the parts writes all rows at once.
use mathlib.Core.Path.{◌≡◌, refl, sym, ap, ◌∙◌}
use mathlib.Core.List.{List, [], ◌∷◌, ◌++◌, append-nil, append_assoc}
use Prim.Native.Nat.{ℕ, zero, suc, ◌+◌, ◌-◌, ◌*◌, ◌<◌}
use native.Mathlib.Nat.{not-suc-le-zero, zero-add}
use native.Mathlib.Omega.{arith}
use lib.ListN.{length, get_or, set, take, get_or-append}
use lib.Seq.{take_all, get_or-append-add}
use lib.Ieee.{Float}
use Rattle.lists.specs.Tabulate.{tabulate}
use Rattle.lists.specs.Filled.{filled}
use Rattle.lists.proofs.Tables.{length_tabulate, get_d_tabulate, tabulate_cong}
use Rattle.lists.proofs.Filling.{filled_none, filled_length, filled_store_lem, set_filled, take_filled}
use Rattle.model.specs.Model.{part_of}
use Rattle.model.specs.Flat.{code_of, first_input, second_input, vector_of, number_of, entry_rows, word_entries, number_entries}
use Rattle.model.specs.declared.Part.{Part}

module _ {A : Type 0} (parts : List Part) where
  abbrev entry : (Part → A) → ℕ → A
  entry f p = f (part_of parts p)

  -- ---- the entry of a row at a part's place

  pub first_row : (f : Part → A) (fs : List (Part → A)) (p : ℕ) (d : A) → p < 64 → get_or (entry_rows (f ∷ fs) parts) p d ≡ entry f p
  unfolding entry_rows
  first_row f fs p d h =
      get_or-append (tabulate 64 (entry f)) (entry_rows fs parts) d p (omega (arith, length_tabulate 64 (entry f)))
      ∙ get_d_tabulate 64 (entry f) p d h

  next_row : (f : Part → A) (fs : List (Part → A)) (p : ℕ) (d : A) → get_or (entry_rows (f ∷ fs) parts) (64 + p) d ≡ get_or (entry_rows fs parts) p d
  unfolding entry_rows
  next_row f fs p d =
      ap (λ (m : ℕ). get_or (entry_rows (f ∷ fs) parts) (m + p) d) (sym (length_tabulate 64 (entry f)))
      ∙ get_or-append-add (tabulate 64 (entry f)) (entry_rows fs parts) p d

  pub row_entry : (fs : List (Part → A)) (k p : ℕ) (f : Part → A) (d : A) → k < length fs → p < 64
      → get_or (entry_rows fs parts) (k * 64 + p) d ≡ entry (get_or fs k f) p
  row_entry [] k p f d within h = absurd (not-suc-le-zero within)
  row_entry (g ∷ fs) zero p f d within h =
      let place : zero * 64 + p ≡ p = omega arith in
      ap (λ (i : ℕ). get_or (entry_rows (g ∷ fs) parts) i d) place ∙ first_row g fs p d h
  row_entry (g ∷ fs) (suc k) p f d within h =
      let place : suc k * 64 + p ≡ 64 + (k * 64 + p) = omega arith in
      ap (λ (i : ℕ). get_or (entry_rows (g ∷ fs) parts) i d) place
      ∙ next_row g fs (k * 64 + p) d
      ∙ row_entry fs k p f d (omega arith) h

  -- ---- a loop over the parts

  -- the function of places that fills the row at `at`
  abbrev placed : (Part → A) → (at q : ℕ) → A
  placed f at q = entry f (q - at)

  -- rows from `at` on, each with its first p places filled
  unfoldable pub laid : List (Part → A) → (at p : ℕ) → List A → List A
  laid [] at p l = l
  laid (f ∷ fs) at p l = laid fs (at + 64) p (filled at p (placed f at) l)

  -- a part's entries stored at its place in each row
  unfoldable stored : List (Part → A) → Part → (at p : ℕ) → List A → List A
  stored [] q at p l = l
  stored (f ∷ fs) q at p l = stored fs q (at + 64) p (set l (at + p) (f q))

  pub laid_none : (fs : List (Part → A)) (at : ℕ) (l : List A) → l ≡ laid fs at 0 l
  unfolding laid
  laid_none [] at l = refl
  laid_none (f ∷ fs) at l =
      laid_none fs (at + 64) l ∙ ap (laid fs (at + 64) 0) (sym (filled_none at (placed f at) l))

  -- a store before the rows
  set_laid : (fs : List (Part → A)) (at p i : ℕ) (l : List A) (v : A) → i < at → set (laid fs at p l) i v ≡ laid fs at p (set l i v)
  unfolding laid
  set_laid [] at p i l v before = refl
  set_laid (f ∷ fs) at p i l v before =
      set_laid fs (at + 64) p i (filled at p (placed f at) l) v (omega arith)
      ∙ ap (laid fs (at + 64) p) (set_filled at p (placed f at) l i v (λ from. omega arith))

  -- one part more
  laid_more : (fs : List (Part → A)) (at p : ℕ) (l : List A) → p < 64 → stored fs (part_of parts p) at p (laid fs at p l) ≡ laid fs at (p + 1) l
  unfolding laid stored
  laid_more [] at p l h = refl
  laid_more (f ∷ fs) at p l h =
      let place : p ≡ at + p - at = omega arith in
      ap (stored fs (part_of parts p) (at + 64) p)
      (set_laid fs (at + 64) p (at + p) (filled at p (placed f at) l) (entry f p) (omega arith)
      ∙ ap (laid fs (at + 64) p) (filled_store_lem at p (placed f at) l refl (ap (entry f) place)))
      ∙ laid_more fs (at + 64) p (filled at (p + 1) (placed f at) l) h

  -- all 64
  pub laid_all : (fs : List (Part → A)) (at : ℕ) (l : List A) → length l ≡ at + length fs * 64 → laid fs at 64 l ≡ take at l ++ entry_rows fs parts
  unfolding laid entry_rows
  laid_all [] at l long = sym (append-nil (take at l) ∙ take_all at l (omega arith))
  laid_all (f ∷ fs) at l long =
      laid_all fs (at + 64) (filled at 64 (placed f at) l) (omega (arith, filled_length at 64 (placed f at) l))
      ∙ ap (λ (t : List A). t ++ entry_rows fs parts)
      (take_filled at 64 (placed f at) l (omega arith)
      ∙ ap (λ (t : List A). take at l ++ t)
      (tabulate_cong 64 _ _ (λ k h. let place : at + k - at ≡ k = omega arith in ap (entry f) place)))
      ∙ append_assoc (take at l) (tabulate 64 (entry f)) (entry_rows fs parts)

-- one part more of the words, and of the numbers
module _ (parts : List Part) (p : ℕ) {part : Part} (same : part ≡ part_of parts p) (below : p < 64) where
  pub words_more : (l : List ℕ) {now last : List ℕ} → now ≡ laid parts word_entries 0 p l
      → last ≡ set (set (set now p (code_of part)) (64 + p) (first_input part)) (128 + p) (second_input part)
      → last ≡ laid parts word_entries 0 (p + 1) l
  unfolding stored
  words_more l so_far next =
      let here : p ≡ 0 + p = sym (zero-add p) in
      next
      ∙ (λ i. set (set (set (so_far i) (here i) (code_of (same i))) (64 + p) (first_input (same i))) (128 + p) (second_input (same i)))
      ∙ laid_more parts word_entries 0 p l below

  pub numbers_more : (l : List Float) {now last : List Float} → now ≡ laid parts number_entries 0 p l
      → last ≡ set (set (set (set now p (vector_of part).x) (64 + p) (vector_of part).y) (128 + p) (vector_of part).z) (192 + p) (number_of part)
      → last ≡ laid parts number_entries 0 (p + 1) l
  unfolding stored
  numbers_more l so_far next =
      let here : p ≡ 0 + p = sym (zero-add p) in
      next
      ∙ (λ i. set (set (set (set (so_far i) (here i) (vector_of (same i)).x) (64 + p) (vector_of (same i)).y) (128 + p) (vector_of (same i)).z) (192 + p) (number_of (same i)))
      ∙ laid_more parts number_entries 0 p l below
