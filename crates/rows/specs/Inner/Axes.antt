-- Where the points of a leaf stand on each axis.
use Rattle.std.specs.Prelude.{ℕ, ◌-◌, replicate, slice_index_or}
use Rattle.std.specs.Float.{nan}
use Rattle.lists.specs.Filled.{filled}
use Rattle.float.specs.Zero.{plus_zero}
use Rattle.geometry.specs.declared.BoundingBox.{BoundingBox}
use Rattle.geometry.specs.declared.PointRow.{PointRow}
use Rattle.geometry.specs.declared.Vec3.{Vec3}
use Rattle.geometry.specs.Values.{vec3}
use Rattle.geometry.specs.Axis.{along}
use Rattle.geometry.specs.Index.{indices_of}

-- along x, y and z, l points on each
abbrev pub axes_of : BoundingBox → ℕ → PointRow
axes_of b l =
    record {
      xs = filled 0 l (along b.min.x b.max.x (l - 1)) (replicate 64 plus_zero);
      ys = filled 0 l (along b.min.y b.max.y (l - 1)) (replicate 64 plus_zero);
      zs = filled 0 l (along b.min.z b.max.z (l - 1)) (replicate 64 plus_zero);
    }

-- point q of l by l by l, i fastest
unfoldable pub axes_point : (l : ℕ) → PointRow → (q : ℕ) → Vec3
axes_point l axes q =
    let v = indices_of q l l in vec3 (slice_index_or axes.xs v.i nan) (slice_index_or axes.ys v.j nan) (slice_index_or axes.zs v.k nan)
