-- The number of points of a grid that is not refused fits.
use Rattle.std.proofs.Common.{sym, ◌∙◌, arith}
use Rattle.geometry.proofs.Grid.{Accepted, accepted, area_le}
use Rattle.geometry.proofs.places.index3d_from_index1d.Goals as goal
use Rattle.geometry.proofs.places.index3d_from_index1d.Goals.{Else-dimensions_refused}

grid : (c : Else-dimensions_refused) → let a = c.args in Accepted a.nx a.ny a.nz
grid c = accepted _ _ _ (sym c.dimensions_refused.ensures ∙ c.if-dimensions_refused.false)

pub overflow_mul-nx : goal.overflow_mul-nx
overflow_mul-nx c = omega (arith, area_le (grid c))

pub overflow_mul-nx-2 : goal.overflow_mul-nx-2
overflow_mul-nx-2 c = omega (arith, (grid c).few)
