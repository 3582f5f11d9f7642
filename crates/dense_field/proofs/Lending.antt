-- Values that cause 9 does not refuse.
use Rattle.std.proofs.Common.{◌≡◌, ℕ, ◌+◌, ◌*◌, ◌<◌, ◌≤◌, ◌∙◌, mul-le-mul_right, le-mul_of_pos_right, arith}
use Rattle.geometry.specs.declared.Vec3i.{Vec3i}
use Rattle.dense_field.specs.Field.{points_of}
use Rattle.dense_field.specs.Inner.Lent.{Lent}

-- the same field with other values of its length
pub as_long : {n : Vec3i} {a b : ℕ} → Lent n a → b ≡ a → Lent n b
as_long s e = record { x_above = s.x_above; y_above = s.y_above; z_above = s.z_above; few = s.few; long = e ∙ s.long }

-- a row and a slab stand in the field
pub record Within (n : Vec3i) (j k len : ℕ) : Type 0 where
  pub few : points_of n ≤ 16777216
  pub long : len ≡ points_of n
  pub area : n.i * n.j ≤ points_of n
  pub rows : n.i ≤ n.i * n.j
  pub row : j * n.i + n.i ≤ n.i * n.j
  pub slab : k * (n.i * n.j) + n.i * n.j ≤ points_of n

pub within : {n : Vec3i} {len : ℕ} → Lent n len → (j k : ℕ) → j < n.j → k < n.k → Within n j k len
within {n} s j k hj hk =
    let slab : k * (n.i * n.j) + n.i * n.j ≤ points_of n = omega (arith, mul-le-mul_right (n.i * n.j) hk) in
    record {
      few = s.few;
      long = s.long;
      area = omega arith;
      rows = le-mul_of_pos_right n.i s.y_above;
      row = omega (arith, mul-le-mul_right n.i hj);
      slab = slab;
    }
