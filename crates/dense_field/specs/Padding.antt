-- Padding: the outside points set to one value (rule D6).
use Rattle.std.specs.Prelude.{ℕ, cond, List, slice_index_or, Float}
use Rattle.lists.specs.Tabulate.{tabulate}
use Rattle.float.specs.Zero.{plus_zero}
use Rattle.geometry.specs.declared.Vec3i.{Vec3i}
use Rattle.geometry.specs.Index.{indices_of}
use Rattle.dense_field.specs.Field.{points_of, outside}

-- the value at one place (rule D6)
unfoldable pub padded_at : Vec3i → Float → List Float → ℕ → Float
padded_at n value vs p = cond (outside n (indices_of p n.i n.j)) value (slice_index_or vs p plus_zero)

-- all of them (rule D6)
unfoldable pub padded : Vec3i → Float → List Float → List Float
padded n value vs = tabulate (points_of n) (padded_at n value vs)
