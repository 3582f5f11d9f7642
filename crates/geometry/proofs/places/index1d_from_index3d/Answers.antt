-- The place of indices in range fits, and so does each of its terms.
use Rattle.std.proofs.Common.{◌+◌, ◌*◌, ◌^◌, ◌<◌, sym, ◌∙◌, arith}
use Rattle.geometry.proofs.Grid.{Accepted, accepted, slab_fits, place_fits}
use Rattle.geometry.proofs.places.index1d_from_index3d.Goals as goal
use Rattle.geometry.proofs.places.index1d_from_index3d.Goals.{Else-k-nz}

grid : (c : Else-k-nz) → let a = c.args in Accepted a.nx a.ny a.nz
grid c = accepted _ _ _ (sym c.dimensions_refused.ensures ∙ c.if-dimensions_refused.false)

place : (c : Else-k-nz) → let a = c.args in a.k * a.nx * a.ny + a.j * a.nx + a.i < 2 ^ 64
place c = let a = c.args in place_fits (grid c) a.i a.j a.k c.if-i-nx.false c.if-j-ny.false c.if-k-nz.false

pub overflow_mul-result : goal.overflow_mul-result
overflow_mul-result c =
    let a = c.args in
    omega (arith, slab_fits (grid c) a.i a.j a.k c.if-i-nx.false c.if-j-ny.false c.if-k-nz.false)

pub overflow_mul-result-2 : goal.overflow_mul-result-2
overflow_mul-result-2 c = omega (arith, place c)

pub overflow_mul-result-3 : goal.overflow_mul-result-3
overflow_mul-result-3 c = omega (arith, place c)

pub overflow_add-result : goal.overflow_add-result
overflow_add-result c = omega (arith, place c)

pub overflow_add-result-2 : goal.overflow_add-result-2
overflow_add-result-2 c = omega (arith, place c)
