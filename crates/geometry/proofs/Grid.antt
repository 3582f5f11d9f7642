-- A grid that cause 9 does not refuse: its dimensions are above 0, and the products that an index takes are small.
use mathlib.Core.Path.{◌≡◌, refl}
use mathlib.Core.Bool.{false, ◌||◌}
use Prim.Native.Nat.{ℕ, zero, suc, ◌+◌, ◌*◌, ◌^◌, ◌≤◌, ◌<◌}
use native.Mathlib.Nat.{mul-pos, mul_comm, mul_assoc, le-mul_of_pos_right, mul-le-mul_right}
use native.Mathlib.Omega.{arith}
use lib.Dec.{eqb}
use borrow.Author.Tests.{ltb-false, eqb-false}
use Rattle.lists.proofs.Tests.{or_left, or_right}
use Rattle.geometry.specs.Index.{dimensions_refused}

pub record Accepted (nx ny nz : ℕ) : Type 0 where
  pub x_above : 0 < nx
  pub y_above : 0 < ny
  pub z_above : 0 < nz
  pub few : nx * ny * nz ≤ 16777216

above_zero : (n : ℕ) → eqb n 0 ≡ false → 0 < n
above_zero zero e = absurd (eqb-false 0 0 e refl)
above_zero (suc n) e = omega arith

pub accepted : (nx ny nz : ℕ) → dimensions_refused nx ny nz ≡ false → Accepted nx ny nz
unfolding dimensions_refused
accepted nx ny nz e =
    let xyz : (eqb nx 0 || eqb ny 0 || eqb nz 0) ≡ false = or_left _ _ e in
    let xy : (eqb nx 0 || eqb ny 0) ≡ false = or_left _ _ xyz in
    record {
      x_above = above_zero nx (or_left _ _ xy);
      y_above = above_zero ny (or_right (eqb nx 0) _ xy);
      z_above = above_zero nz (or_right (eqb nx 0 || eqb ny 0) _ xyz);
      few = ltb-false 16777216 (nx * ny * nz) (or_right (eqb nx 0 || eqb ny 0 || eqb nz 0) _ e);
    }

-- a product is no smaller than its factors
pub x_le : (nx ny nz : ℕ) → 0 < ny → 0 < nz → nx ≤ nx * ny * nz
x_le nx ny nz hy hz = omega (arith, le-mul_of_pos_right nx hy, le-mul_of_pos_right (nx * ny) hz)

pub y_le : (nx ny nz : ℕ) → 0 < nx → 0 < nz → ny ≤ nx * ny * nz
y_le nx ny nz hx hz = omega (arith, le-mul_of_pos_right ny hx, mul_comm ny nx, le-mul_of_pos_right (nx * ny) hz)

pub z_le : (nx ny nz : ℕ) → 0 < nx → 0 < ny → nz ≤ nx * ny * nz
z_le nx ny nz hx hy = omega (arith, le-mul_of_pos_right nz (mul-pos hx hy), mul_comm nz (nx * ny))

module _ {nx ny nz : ℕ} (g : Accepted nx ny nz) where
  pub area_le : nx * ny ≤ 16777216
  area_le = omega (arith, g.few, le-mul_of_pos_right (nx * ny) g.z_above)

  -- the place of indices in range is below the product, and so is each of its terms
  pub place_below : (i j k : ℕ) → i < nx → j < ny → k < nz → k * nx * ny + j * nx + i < nx * ny * nz
  place_below i j k hi hj hk =
      let rows : j * nx + nx ≤ nx * ny = omega (arith, mul-le-mul_right nx hj) in
      let slabs : k * (nx * ny) + nx * ny ≤ nz * (nx * ny) = omega (arith, mul-le-mul_right (nx * ny) hk) in
      omega (arith, mul_assoc k nx ny, mul_comm nz (nx * ny))

  pub slab_le : (i j k : ℕ) → i < nx → j < ny → k < nz → k * nx ≤ 16777216
  slab_le i j k hi hj hk =
      omega (arith, place_below i j k hi hj hk, g.few, le-mul_of_pos_right (k * nx) g.y_above)

  pub slab_fits : (i j k : ℕ) → i < nx → j < ny → k < nz → k * nx < 2 ^ 64
  slab_fits i j k hi hj hk = omega (arith, slab_le i j k hi hj hk)

  pub place_fits : (i j k : ℕ) → i < nx → j < ny → k < nz → k * nx * ny + j * nx + i < 2 ^ 64
  place_fits i j k hi hj hk = omega (arith, place_below i j k hi hj hk, g.few)
