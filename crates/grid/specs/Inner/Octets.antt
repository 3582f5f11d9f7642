-- The values at a child's eight corners, in a node's slice.
use Rattle.std.specs.Prelude.{ℕ, List, map, slice_index_or, Float}
use Rattle.float.specs.Zero.{plus_zero}
use Rattle.grid.specs.Corners.{octet}

-- the values at them, out of the values at all corners of the node (rule G10)
unfoldable pub octet_values : List Float → (n c : ℕ) → List Float
octet_values corners n c = map (λ p. slice_index_or corners p plus_zero) (octet n c)
