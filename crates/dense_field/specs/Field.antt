-- A dense field's values (rule D1): cause 9, and which points stand on the field's outside.
use Rattle.std.specs.Prelude.{ℕ, ◌+◌, ◌*◌, Bool, not, ◌||◌, ◌==◌}
use Rattle.geometry.specs.declared.Vec3i.{Vec3i}
use Rattle.geometry.specs.Index.{dimensions_refused}

-- cause 9: bad dimensions, or values that are not just as many as the points (rule C9)
unfoldable pub values_refused : Vec3i → (len : ℕ) → Bool
values_refused n len = dimensions_refused n.i n.j n.k || not (len == n.i * n.j * n.k)

-- the points of a field (rule D1)
abbrev pub points_of : Vec3i → ℕ
points_of n = n.i * n.j * n.k

-- the scratch that smoothing needs: a value for each point (rule D10)
unfoldable pub scratch_needed : Vec3i → ℕ
scratch_needed n = points_of n

-- an index that is 0 or the last of its axis (rule D6)
unfoldable pub on_edge : (i n : ℕ) → Bool
on_edge i n = i == 0 || i + 1 == n

-- a point with such an index (rule D6)
unfoldable pub outside : Vec3i → Vec3i → Bool
outside n at = on_edge at.i n.i || on_edge at.j n.j || on_edge at.k n.k
