-- The parts that flat arrays stand for, as a list of parts: what counts as a part of the list is the part that stands there.
use Rattle.std.proofs.Common.{◌≡◌, ◌<◌, ◌≤◌, ◌+◌, ◌++◌, ℕ, List, [], ◌∷◌, Float, get_or, drop, refl, ap, ◌∙◌, arith}
use lib.ListN.{get_or-eq_default}
use Rattle.lists.proofs.Tables.{get_d_tabulate, tabulate_cong}
use Rattle.float.specs.Zero.{plus_zero}
use Rattle.geometry.specs.Values.{vec3}
use Rattle.geometry.specs.declared.PointRow.{PointRow}
use Rattle.geometry.specs.declared.Vec3.{Vec3}
use Rattle.model.specs.Part.{past, placed}
use Rattle.model.specs.Model.{part_of, values_to, model_value}
use Rattle.model.specs.Model as list
use Rattle.model.specs.Flat.{Flat, code_of, first_input, second_input, vector_of, number_of, word_entries, number_entries, layout_of, part_from, part_read, part_at, parts_of}
use Rattle.model.specs.Row.{evaluated_rows, model_row}
use Rattle.model.specs.declared.Part.{Part}
use Rattle.model.specs.declared.Part.TheVariants.{Constant, Sphere, Plane, Min, Max, Add, Sub, Neg}
use Rattle.model.proofs.EntryRows.{first_row, row_entry}
use Rattle.model.proofs.Placed.{placed_below, placed_same}

-- a code that no part has
pub unknown_code : (code : ℕ) (v : Vec3) (w : Float) (a b : ℕ) → 7 < code → part_from code v w a b ≡ Constant plus_zero
unfolding part_from
unknown_code code v w a b h =
    get_or-eq_default
    (Constant w ∷ Sphere v w ∷ Plane v w ∷ Min a b ∷ Max a b ∷ Add a b ∷ Sub a b ∷ Neg a ∷ [])
    (Constant plus_zero)
    {n = code}
    h

module _ (l : Flat) where
  -- a part that is placed once more stays as it is
  pub placed_again : (p : ℕ) → placed p (part_at l p) ≡ part_at l p
  unfolding part_at
  placed_again p = placed_same p (placed p (part_read l p)) (placed_below p (part_read l p))

  module _ (count : ℕ) where
    pub part_there : (p : ℕ) → p < count → part_of (parts_of l count) p ≡ part_at l p
    part_there p h = get_d_tabulate count (part_at l) p (Constant plus_zero) h

    pub counts_as : (p : ℕ) → p < count → list.part_at (parts_of l count) p ≡ part_at l p
    unfolding list.part_at
    counts_as p h = ap (placed p) (part_there p h) ∙ placed_again p

    pub parts_again : list.parts_of (parts_of l count) count ≡ parts_of l count
    parts_again = tabulate_cong count _ _ counts_as

  -- at a point, where the arrays' count is cut
  module _ (x y z : Float) {n count : ℕ} (cut : n ≡ count) where
    pub flat_value : model_value (list.parts_of (parts_of l n) n) n x y z ≡ model_value (parts_of l count) count x y z
    flat_value = ap (λ (ps : List Part). model_value ps n x y z) (parts_again n) ∙ ap (λ (m : ℕ). model_value (parts_of l m) m x y z) cut

    pub flat_written : (entry : List Float) → (values_to (list.parts_of (parts_of l n) n) x y z n ++ drop n entry)
        ≡ (values_to (parts_of l count) x y z count ++ drop count entry)
    flat_written entry =
        ap (λ (ps : List Part). values_to ps x y z n ++ drop n entry) (parts_again n)
        ∙ ap (λ (m : ℕ). values_to (parts_of l m) x y z m ++ drop m entry) cut

  -- in rows, where the points' count is cut too
  module _ (points : PointRow) (entry : List Float) {n count k lanes : ℕ} (cut : n ≡ count) (few : k ≡ lanes) where
    pub flat_rows : evaluated_rows (parts_of l n) n k points entry ≡ evaluated_rows (parts_of l count) count lanes points entry
    flat_rows = λ i. evaluated_rows (parts_of l (cut i)) (cut i) (few i) points entry

    pub flat_row : model_row (parts_of l n) n k points entry ≡ model_row (parts_of l count) count lanes points entry
    flat_row = λ i. model_row (parts_of l (cut i)) (cut i) (few i) points entry

-- ---- a list of parts that is laid out

-- what is made of a part's entries, where they stand
module _ (of : ℕ → Vec3 → Float → (a b : ℕ) → Part) (parts : List Part) where
  pub entries_back : (p : ℕ) → p < 64 → (let l : Flat = layout_of parts in of (get_or l.words p 0)
      (vec3 (get_or l.numbers p past) (get_or l.numbers (64 + p) past) (get_or l.numbers (128 + p) past))
      (get_or l.numbers (192 + p) past)
      (get_or l.words (64 + p) 0)
      (get_or l.words (128 + p) 0))
      ≡ (let q : Part = part_of parts p in of (code_of q) (vector_of q) (number_of q) (first_input q) (second_input q))
  entries_back p h =
      let code = first_row parts code_of (first_input ∷ second_input ∷ []) p 0 h in
      let first = row_entry parts word_entries 1 p code_of 0 (omega arith) h in
      let second = row_entry parts word_entries 2 p code_of 0 (omega arith) h in
      let x = first_row parts (λ q. (vector_of q).x) ((λ q. (vector_of q).y) ∷ (λ q. (vector_of q).z) ∷ number_of ∷ []) p past h in
      let y = row_entry parts number_entries 1 p number_of past (omega arith) h in
      let z = row_entry parts number_entries 2 p number_of past (omega arith) h in
      let w = row_entry parts number_entries 3 p number_of past (omega arith) h in
      λ i. of (code i) (vec3 (x i) (y i) (z i)) (w i) (first i) (second i)

-- a part from its own entries
from_entries : (q : Part) → part_from (code_of q) (vector_of q) (number_of q) (first_input q) (second_input q) ≡ q
unfolding code_of first_input second_input vector_of number_of part_from
from_entries (Constant w) = refl
from_entries (Sphere centre r) = refl
from_entries (Plane n d) = refl
from_entries (Min a b) = refl
from_entries (Max a b) = refl
from_entries (Add a b) = refl
from_entries (Sub a b) = refl
from_entries (Neg a) = refl

-- laying parts out and reading them back gives what counts as them
pub laid_parts : (parts : List Part) (count : ℕ) → count ≤ 64 → parts_of (layout_of parts) count ≡ list.parts_of parts count
unfolding part_at part_read list.part_at
laid_parts parts count few =
    tabulate_cong count _ _
    (λ p h. ap (placed p) (entries_back part_from parts p (omega arith) ∙ from_entries (part_of parts p)))
