-- The first parts of a model, as a slice: what is made of the slice is made of the model.
use Rattle.std.proofs.Common.{◌≡◌, ℕ, zero, suc, List, Float, ◌++◌, ◌&&◌, ◌≤◌, map, take, drop, length, refl, sym, ap, ◌∙◌, arith}
use lib.Seq.{length-take-le, get_or-take}
use Rattle.std.proofs.lemmas.List.{take-map}
use Rattle.lists.proofs.Tables.{tabulate_cong}
use Rattle.float.specs.Zero.{plus_zero}
use Rattle.geometry.specs.declared.PointRow.{PointRow}
use Rattle.model.specs.declared.ModelComponent.{ModelComponent}
use Rattle.model.specs.declared.Part.{Part}
use Rattle.model.specs.declared.Part.TheVariants.{Constant}
use Rattle.model.specs.Part.{part_in, inputs_below, placed}
use Rattle.model.specs.Model.{values_to, model_value, part_of, part_at, parts_of, ordered_to}
use Rattle.model.specs.Row.{evaluated_rows, model_row}
use Rattle.model.proofs.SameRows.{same_rows, same_row}

-- the part at a place below `count` stands in the front of so many
module _ (parts : List Part) (count : ℕ) where
  part_front : (p : ℕ) → suc p ≤ count → part_of (take count parts) p ≡ part_of parts p
  part_front p h = get_or-take count parts p (Constant plus_zero) h

  ordered_front : (p : ℕ) → p ≤ count → ordered_to (take count parts) p ≡ ordered_to parts p
  unfolding ordered_to
  ordered_front zero h = refl
  ordered_front (suc p) h =
      let earlier : ordered_to (take count parts) p ≡ ordered_to parts p = ordered_front p (omega arith) in
      let part : part_of (take count parts) p ≡ part_of parts p = part_front p h in
      λ i. earlier i && inputs_below p (part i)

  parts_front : parts_of (take count parts) count ≡ parts_of parts count
  unfolding part_at
  parts_front = tabulate_cong count _ _ (λ p h. ap (placed p) (part_front p (omega arith)))

module _ (cs front : List ModelComponent) (count : ℕ) (within : count ≤ length cs) (is : front ≡ take count cs) where
  front_long : length front ≡ count
  front_long = ap length is ∙ length-take-le count cs within

  wrapped : map part_in front ≡ take count (map part_in cs)
  wrapped = ap (map part_in) is ∙ sym (take-map part_in count cs)

  pub front_ordered : ordered_to (map part_in front) (length front) ≡ ordered_to (map part_in cs) count
  front_ordered = (λ i. ordered_to (wrapped i) (front_long i)) ∙ ordered_front (map part_in cs) count count (omega arith)

  front_parts : parts_of (map part_in front) (length front) ≡ parts_of (map part_in cs) count
  front_parts = (λ i. parts_of (wrapped i) (front_long i)) ∙ parts_front (map part_in cs) count

  front_values : (x y z : Float) → values_to (parts_of (map part_in front) (length front)) x y z (length front)
      ≡ values_to (parts_of (map part_in cs) count) x y z count
  front_values x y z = λ i. values_to (front_parts i) x y z (front_long i)

  -- the values written over a list's front
  pub front_written : (x y z : Float) (l : List Float)
      → (values_to (parts_of (map part_in front) (length front)) x y z (length front) ++ drop (length front) l)
      ≡ (values_to (parts_of (map part_in cs) count) x y z count ++ drop count l)
  front_written x y z l = λ i. front_values x y z i ++ drop (front_long i) l

  pub front_value : (x y z : Float) → model_value (parts_of (map part_in front) (length front)) (length front) x y z
      ≡ model_value (parts_of (map part_in cs) count) count x y z
  front_value x y z = λ i. model_value (front_parts i) (front_long i) x y z

  module _ (lanes : ℕ) (points : PointRow) (l : List Float) {n : ℕ} (many : n ≡ lanes) where
    pub front_rows : evaluated_rows (map part_in front) (length front) n points l ≡ evaluated_rows (map part_in cs) count lanes points l
    front_rows = same_rows _ _ front_parts front_long points l many

    pub front_row : model_row (map part_in front) (length front) n points l ≡ model_row (map part_in cs) count lanes points l
    front_row = same_row _ _ front_parts front_long points l many
