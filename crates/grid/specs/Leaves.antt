-- The points of a leaf (rule G15).
use Rattle.std.specs.Prelude.{ℕ, ◌-◌}
use Rattle.geometry.specs.declared.Vec3.{Vec3}
use Rattle.geometry.specs.declared.BoundingBox.{BoundingBox}
use Rattle.geometry.specs.Values.{vec3}
use Rattle.geometry.specs.Index.{indices_of}
use Rattle.geometry.specs.Axis.{along}

-- where point p of a leaf stands in its box, l points along each axis (rules G4 and G15)
unfoldable pub leaf_point : BoundingBox → (l p : ℕ) → Vec3
leaf_point b l p =
    let at = indices_of p l l in
    vec3
    (along b.min.x b.max.x (l - 1) at.i)
    (along b.min.y b.max.y (l - 1) at.j)
    (along b.min.z b.max.z (l - 1) at.k)
