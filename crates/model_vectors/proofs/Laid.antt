-- The value of a model, in lane 3 of a row of 5 points and laid out.
use Rattle.std.proofs.Common.{◌≡◌, ℕ, min, List, Float, length, get_or, ap, ◌∙◌, arith}
use Rattle.lists.proofs.Filling.{get_or_filled}
use Rattle.geometry.specs.declared.Vec3.{Vec3}
use Rattle.geometry.specs.declared.PointRow.{PointRow}
use Rattle.geometry.specs.PointRow.{point_in}
use Rattle.model.specs.declared.Part.{Part}
use Rattle.model.specs.Model.{parts_in, parts_of, model_value}
use Rattle.model.specs.Flat.{Flat, layout_of}
use Rattle.model.specs.Flat as flat
use Rattle.model.specs.Row.{model_row}
use Rattle.model.specs.declared.ImplicitModel.{ImplicitModel}
use Rattle.model.proofs.FlatParts.{laid_parts, parts_again}
use Rattle.model.proofs.SameRows.{same_row}
use Rattle.model_vectors.specs.Compare.{any_value}

module _ (m : ImplicitModel) where
  abbrev count : ℕ
  count = min m.count 64

  pub in_row : (row : PointRow) (results : List Float) (p : Vec3) (d : Float) → length results ≡ 64 → point_in row 3 ≡ p
      → get_or (model_row (parts_in m) count 5 row results) 3 d ≡ any_value m p.x p.y p.z
  unfolding model_row
  in_row row results p d long at =
      get_or_filled 0 5 (λ k. let at = point_in row k in any_value m at.x at.y at.z) results 3 d (omega arith) (omega arith) (omega arith)
      ∙ ap (λ (v : Vec3). any_value m v.x v.y v.z) at

  -- the parts that the laid out model's arrays stand for
  module _ (l : Flat) (laid : l ≡ layout_of (parts_in m)) where
    parts_back : flat.parts_of l count ≡ parts_of (parts_in m) count
    parts_back = ap (λ (k : Flat). flat.parts_of k count) laid ∙ laid_parts (parts_in m) count (omega arith)

    pub flat_at : (x y z : Float) → model_value (flat.parts_of l count) count x y z ≡ any_value m x y z
    flat_at x y z = ap (λ (ps : List Part). model_value ps count x y z) parts_back

    pub flat_in_row : (row : PointRow) (results : List Float)
        → model_row (flat.parts_of l count) count 5 row results ≡ model_row (parts_in m) count 5 row results
    flat_in_row row results = same_row _ _ (parts_again l count ∙ parts_back) (λ i. count) row results (λ i. 5)
