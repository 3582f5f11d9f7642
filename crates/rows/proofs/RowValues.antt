-- A row of points, evaluated: each value is the model's at its point, and the lists are as long as before.
use Rattle.std.proofs.Common.{◌≡◌, ℕ, min, ◌≤◌, ◌<◌, Float, List, length, get_or, replicate, ap, ◌∙◌, arith}
use lib.ListN.{length-replicate}
use native.Mathlib.Nat.{min-eq_left}
use Rattle.float.specs.Zero.{plus_zero}
use Rattle.geometry.specs.declared.Vec3.{Vec3}
use Rattle.geometry.specs.declared.PointRow.{PointRow}
use Rattle.geometry.specs.PointRow.{no_points, point_in, with_points}
use Rattle.geometry.specs.Values.{at}
use Rattle.lists.specs.Filled.{filled}
use Rattle.lists.proofs.Filling.{filled_length, get_or_filled}
use Rattle.model.specs.Part.{past}
use Rattle.model.specs.declared.ImplicitModel.{ImplicitModel}
use Rattle.model.specs.Model.{parts_in}
use Rattle.model.specs.Row.{model_row}
use Rattle.rows.specs.Inner.ModelValue.{model_at}

-- a row of points and their values, each list of 64: nothing else tells how long an array's list is
pub record Row (points : PointRow) (values : List Float) : Type 0 where
  pub x_long : length points.xs ≡ 64
  pub y_long : length points.ys ≡ 64
  pub z_long : length points.zs ≡ 64
  pub values_long : length values ≡ 64

-- before anything is written
pub row_new : Row no_points (replicate 64 plus_zero)
row_new =
    let long = length-replicate 64 plus_zero in
    record { x_long = long; y_long = long; z_long = long; values_long = long }

-- a row after its points were written and evaluated
pub record RowMade (m : ImplicitModel) (len : ℕ) (point : ℕ → Vec3) (old : PointRow) (values : List Float) (new : PointRow) (results : List Float) : Type 0 where
  pub points_made : new ≡ with_points len point old
  pub values_made : results ≡ model_row (parts_in m) (min m.count 64) (min len 64) new values

front : (len : ℕ) (f : ℕ → Float) (old : List Float) {l : List Float} → l ≡ filled 0 len f old → len ≤ 64 → length old ≡ 64
    → (q : ℕ) → q < len → get_or l q past ≡ f q
front len f old e short long q below =
    ap (λ l. get_or l q past) e ∙ get_or_filled 0 len f old q past (omega arith) (omega arith) (omega arith)

kept : (len : ℕ) (f : ℕ → Float) (old : List Float) {l : List Float} → l ≡ filled 0 len f old → length old ≡ 64 → length l ≡ 64
kept len f old e long = ap length e ∙ filled_length 0 len f old ∙ long

module _ {m : ImplicitModel} {len : ℕ} {point : ℕ → Vec3} {old new : PointRow} {values results : List Float}
    (made : RowMade m len point old values new results) (row : Row old values) where
  xs_made : new.xs ≡ filled 0 len (λ q. (point q).x) old.xs
  xs_made = ap (λ (r : PointRow). r.xs) made.points_made

  ys_made : new.ys ≡ filled 0 len (λ q. (point q).y) old.ys
  ys_made = ap (λ (r : PointRow). r.ys) made.points_made

  zs_made : new.zs ≡ filled 0 len (λ q. (point q).z) old.zs
  zs_made = ap (λ (r : PointRow). r.zs) made.points_made

  -- the model's value at the point that was written to place s
  abbrev written : ℕ → Float
  written s = at (model_at m) (point_in new s)

  pub row_value : len ≤ 64 → (q : ℕ) → q < len → get_or results q past ≡ at (model_at m) (point q)
  unfolding model_row model_at
  row_value short q below =
      let all : min len 64 ≡ len = min-eq_left short in
      let x = front len (λ q. (point q).x) old.xs xs_made short row.x_long q below in
      let y = front len (λ q. (point q).y) old.ys ys_made short row.y_long q below in
      let z = front len (λ q. (point q).z) old.zs zs_made short row.z_long q below in
      ap (λ l. get_or l q past) made.values_made
      ∙ get_or_filled 0 (min len 64) written values q past (omega arith) (omega arith) (omega (arith, row.values_long))
      ∙ (λ t. model_at m (x t) (y t) (z t))

  pub row_kept : Row new results
  unfolding model_row model_at
  row_kept = record {
    x_long = kept len (λ q. (point q).x) old.xs xs_made row.x_long;
    y_long = kept len (λ q. (point q).y) old.ys ys_made row.y_long;
    z_long = kept len (λ q. (point q).z) old.zs zs_made row.z_long;
    values_long = kept (min len 64) written values made.values_made row.values_long;
  }
