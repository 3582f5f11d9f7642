-- Values in rows depend on what counts as the parts, on how many they are and on how many points are taken, alone.
use Rattle.std.proofs.Common.{◌≡◌, ℕ, List, Float, ◌&&◌, ◌/◌, ◌%◌, cond, length, get_or}
use lib.Dec.{ltb}
use Rattle.lists.specs.Tabulate.{tabulate}
use Rattle.lists.specs.Filled.{filled}
use Rattle.geometry.specs.declared.PointRow.{PointRow}
use Rattle.geometry.specs.PointRow.{point_in}
use Rattle.model.specs.declared.Part.{Part}
use Rattle.model.specs.Part.{past}
use Rattle.model.specs.Model.{values_to, model_value, parts_of}
use Rattle.model.specs.Row.{evaluated_rows, model_row}

module _ (ps qs : List Part) {count many : ℕ} (parts : parts_of ps count ≡ parts_of qs many) (same : count ≡ many)
    (points : PointRow) (l : List Float) {n lanes : ℕ} (few : n ≡ lanes) where
  pub same_rows : evaluated_rows ps count n points l ≡ evaluated_rows qs many lanes points l
  unfolding evaluated_rows
  same_rows =
      λ i. tabulate (length l) (λ j. cond (ltb (j / 64) (same i) && ltb (j % 64) (few i))
      (get_or (let at = point_in points (j % 64) in values_to (parts i) at.x at.y at.z (same i)) (j / 64) past)
      (get_or l j past))

  pub same_row : model_row ps count n points l ≡ model_row qs many lanes points l
  unfolding model_row
  same_row = λ i. filled 0 (few i) (λ k. let at = point_in points k in model_value (parts i) (same i) at.x at.y at.z) l
