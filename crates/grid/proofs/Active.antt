-- A child is active exactly where it is on each of the three axes.
use Rattle.std.proofs.Common.{◌≡◌, ℕ, Bool, true, false, ◌&&◌, refl}
use lib.Ieee.{le}
use Rattle.geometry.specs.Box.{intersects_of}
use Rattle.grid.specs.declared.Grid.{Grid}
use Rattle.grid.specs.Nodes.{size_of}
use Rattle.grid.specs.Boxes.{node_box_at, node_box, child_box_at, child_box, node_indices, child_indices, active}
use Rattle.grid.specs.Inner.Activity.{axis_active}

regroup : (x y₁ y₂ z₁ z₂ : Bool) → (x && y₁ && y₂ && z₁ && z₂) ≡ (x && (y₁ && y₂) && (z₁ && z₂))
regroup false y₁ y₂ z₁ z₂ = refl
regroup true false y₂ z₁ z₂ = refl
regroup true true false z₁ z₂ = refl
regroup true true true z₁ z₂ = refl

-- whether a child is active (rule G7): a test for each axis
pub by_axes : (g : Grid) (v c : ℕ) → let b = g.bounds in
    let s = size_of g in
    let n = g.inner in
    let at = node_indices g v in
    let ch = child_indices n c in
    active g v c
    ≡ (axis_active b.min.x b.max.x s n at.i ch.i && axis_active b.min.y b.max.y s n at.j ch.j
    && axis_active b.min.z b.max.z s n at.k ch.k)
unfolding active intersects_of child_box child_box_at node_box node_box_at axis_active
by_axes g v c =
    let a = g.bounds in
    let b = child_box (node_box g v) g.inner c in
    regroup
    (le a.min.x b.max.x && le b.min.x a.max.x)
    (le a.min.y b.max.y)
    (le b.min.y a.max.y)
    (le a.min.z b.max.z)
    (le b.min.z a.max.z)
