-- What the inner functions of this crate are given.
use Rattle.std.specs.Prelude.{◌≡◌, ℕ, ◌+◌, ◌*◌, ◌<◌, ◌≤◌}
use Rattle.geometry.specs.declared.Vec3i.{Vec3i}
use Rattle.dense_field.specs.Field.{points_of}

-- values of a field that cause 9 does not refuse
pub record Lent (n : Vec3i) (len : ℕ) : Type 0 where
  pub x_above : 0 < n.i
  pub y_above : 0 < n.j
  pub z_above : 0 < n.k
  pub few : points_of n ≤ 16777216
  pub long : len ≡ points_of n

-- `count` points from `at` on that have a slab before and behind them, of two slices of one length
pub record Between (n : Vec3i) (at count old new : ℕ) : Type 0 where
  pub x_above : 0 < n.i
  pub rows : n.i ≤ n.i * n.j
  pub before : n.i * n.j ≤ at
  pub behind : at + count + n.i * n.j ≤ old
  pub same : new ≡ old

-- a run of up to 64 places of a field
pub record Run (n : Vec3i) (at len : ℕ) : Type 0 where
  pub x_above : 0 < n.i
  pub y_above : 0 < n.j
  pub rows : n.i ≤ n.i * n.j
  pub area : n.i * n.j ≤ 16777216
  pub within : at + len ≤ 16777216
  pub short : len ≤ 64

-- a cell whose far corner is a point of a field that cause 9 does not refuse
pub record Found (n : Vec3i) (len : ℕ) (c : Vec3i) : Type 0 where
  pub held : Lent n len
  pub i_in : c.i + 1 < n.i
  pub j_in : c.j + 1 < n.j
  pub k_in : c.k + 1 < n.k
