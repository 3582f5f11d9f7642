-- `leaf` meets its contract: the values are lent where the leaf's place says.
use Rattle.std.proofs.Common.{◌+◌, ◌*◌, ◌≤◌, length, get_or, arith}
use Rattle.listing.proofs.LineLaws.{placed_leaf, lent_values}
use Rattle.listing.proofs.ListingLaws.{placed_at}
use Rattle.listing.proofs.sheet.Sheet.leaf.Goals as goal

pub slice_bounds-result-end : goal.slice_bounds-result-end
slice_bounds-result-end c =
    let s = c.args.self.now in
    let within : (get_or s.slices.places.now c.args.j 0 + 1) * s.points ≤ length s.slices.store.now =
    placed_leaf s.points _ _ _ c.requires.leaf (placed_at s.points _ _ _ s.total c.args.j s.placed c.requires.inside) in
    omega (arith, within)

pub returns : goal.returns
returns c =
    let s = c.args.self.now in
    lent_values s.points (get_or s.slices.places.now c.args.j 0) s.slices.store.now
    (placed_leaf s.points _ _ _ c.requires.leaf (placed_at s.points _ _ _ s.total c.args.j s.placed c.requires.inside))
