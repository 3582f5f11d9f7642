-- A leaf's points are where its axes' points stand.
use Rattle.std.proofs.Common.{◌≡◌, ℕ, ◌-◌, ◌≤◌, ◌<◌, Float, get_or, replicate, arith}
use lib.ListN.{length-replicate}
use Rattle.float.specs.Zero.{plus_zero}
use Rattle.geometry.specs.declared.BoundingBox.{BoundingBox}
use Rattle.geometry.specs.Values.{vec3}
use Rattle.geometry.specs.Axis.{along}
use Rattle.geometry.specs.Index.{indices_of}
use Rattle.lists.specs.Filled.{filled}
use Rattle.lists.proofs.Filling.{get_or_filled}
use Rattle.model.specs.Part.{past}
use Rattle.grid.specs.Blocks.{cube}
use Rattle.grid.specs.Leaves.{leaf_point}
use Rattle.grid.proofs.Octets.{within}
use Rattle.rows.specs.Inner.Axes.{axes_of, axes_point}

-- one axis
on_axis : (l : ℕ) (least most : Float) → l ≤ 64 → (i : ℕ) → i < l
    → get_or (filled 0 l (along least most (l - 1)) (replicate 64 plus_zero)) i past ≡ along least most (l - 1) i
on_axis l least most small i below =
    get_or_filled 0 l (along least most (l - 1)) (replicate 64 plus_zero) i past (omega arith) (omega arith)
    (omega (arith, length-replicate 64 plus_zero))

pub axes_leaf : (b : BoundingBox) (l : ℕ) → 0 < l → l ≤ 64 → (q : ℕ) → q < cube l → axes_point l (axes_of b l) q ≡ leaf_point b l q
unfolding axes_point leaf_point
axes_leaf b l above small q below =
    let v = indices_of q l l in
    let w = within l q above below in
    let at_x = on_axis l b.min.x b.max.x small v.i w.i_below in
    let at_y = on_axis l b.min.y b.max.y small v.j w.j_below in
    let at_z = on_axis l b.min.z b.max.z small v.k w.k_below in
    λ t. vec3 (at_x t) (at_y t) (at_z t)
