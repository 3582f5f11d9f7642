-- Points in runs of 64, as the functions below `sample` state them.
use Rattle.std.specs.Prelude.{ℕ, ◌+◌, ◌-◌, min, Float}
use Rattle.std.specs.Float.{binary64}
use Rattle.std.specs.Float.Ieee.{add, mul}
use Rattle.lists.specs.Filled.{filled}
use Rattle.geometry.specs.declared.Vec3.{Vec3}
use Rattle.geometry.specs.declared.Vec3i.{Vec3i}
use Rattle.geometry.specs.declared.PointRow.{PointRow}
use Rattle.geometry.specs.Axis.{as_float}
use Rattle.geometry.specs.Index.{indices_of}
use Rattle.model.specs.Model.{parts_in, parts_value}
use Rattle.model.specs.declared.ImplicitModel.{ImplicitModel}
use Rattle.dense_field.specs.Points.{field_point}
use Rattle.dense_field.specs.declared.sampling.Lattice.{Lattice}

-- one coordinate of a field's point (rule D4)
abbrev pub axis_point : (origin cell : Float) → ℕ → Float
axis_point origin cell i = add binary64 origin (mul binary64 cell (as_float i))

-- the point at one place of a field
abbrev pub place_point : Lattice → ℕ → Vec3
place_point f p = field_point f.origin f.cell (indices_of p f.n.i f.n.j)

-- a row with `count` points of one row of the field, from v on, at the places from `at` on
abbrev pub with_stretch : Lattice → (v : Vec3i) → (at count : ℕ) → PointRow → PointRow
with_stretch f v at count r =
    record {
      xs = filled at count (λ q. axis_point f.origin.x f.cell (v.i + (q - at))) r.xs;
      ys = filled at count (λ q. axis_point f.origin.y f.cell v.j) r.ys;
      zs = filled at count (λ q. axis_point f.origin.z f.cell v.k) r.zs;
    }

-- the value at one place of a field, of a model of any contents
abbrev pub place_value : ImplicitModel → Lattice → ℕ → Float
place_value m f p = let at = place_point f p in parts_value (parts_in m) (min m.count 64) at.x at.y at.z
