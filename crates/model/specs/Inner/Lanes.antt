-- One row of the lent values, as the loops over the points state them.
use Rattle.std.specs.Prelude.{ℕ, ◌+◌, ◌-◌, ◌*◌, List, get_or, Float}
use Rattle.lists.specs.Tabulate.{tabulate}
use Rattle.lists.specs.Filled.{filled}
use Rattle.geometry.specs.declared.PointRow.{PointRow}
use Rattle.model.specs.Part.{past}
use Rattle.model.specs.declared.points.Points.{Points}

-- the place of part p's value at lane k
abbrev pub lane_at : (p k : ℕ) → ℕ
lane_at p k = p * 64 + k

-- row p with its first n lanes set to f 0, f 1, ..
unfoldable pub filled_row : List Float → (p n : ℕ) → (ℕ → Float) → List Float
filled_row values p n f = filled (p * 64) n (λ q. f (q - p * 64)) values

-- the values of the first p parts at lane k
abbrev pub lane : List Float → (k p : ℕ) → List Float
lane values k p = tabulate p (λ q. get_or values (lane_at q k) past)

-- the row that three lent arrays make
abbrev pub points_lent : Points → PointRow
points_lent p = record { xs = p.xs.now; ys = p.ys.now; zs = p.zs.now }
