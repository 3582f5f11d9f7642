-- A row of points: three lists of coordinates.
use Rattle.std.specs.Prelude.{ℕ, replicate, slice_index_or, slice_set}
use Rattle.std.specs.Float.{nan}
use Rattle.lists.specs.Filled.{filled}
use Rattle.float.specs.Zero.{plus_zero}
use Rattle.geometry.specs.Values.{vec3}
use Rattle.geometry.specs.declared.Vec3.{Vec3}
use Rattle.geometry.specs.declared.PointRow.{PointRow}

-- 64 times the point (0, 0, 0)
abbrev pub no_points : PointRow
no_points = record { xs = replicate 64 plus_zero; ys = replicate 64 plus_zero; zs = replicate 64 plus_zero }

-- the point at a place
abbrev pub point_in : PointRow → ℕ → Vec3
point_in r q = vec3 (slice_index_or r.xs q nan) (slice_index_or r.ys q nan) (slice_index_or r.zs q nan)

-- the row with another point at a place
abbrev pub with_point : PointRow → ℕ → Vec3 → PointRow
with_point r q p = record { xs = slice_set r.xs q p.x; ys = slice_set r.ys q p.y; zs = slice_set r.zs q p.z }

-- the row with its first `count` points by a function of their places
abbrev pub with_points : ℕ → (ℕ → Vec3) → PointRow → PointRow
with_points count g r =
    record { xs = filled 0 count (λ q. (g q).x) r.xs; ys = filled 0 count (λ q. (g q).y) r.ys; zs = filled 0 count (λ q. (g q).z) r.zs }
