-- Words that fit: what the tests of the block sizes and of the part count say.
use mathlib.Core.Path.{◌≡◌}
use mathlib.Core.Bool.{Bool, true, ◌&&◌}
use mathlib.Core.List.{List}
use Prim.Native.Nat.{ℕ, ◌<◌}
use lib.Dec.{ltb}
use lib.ListN.{get_or}
use borrow.Author.Tests.{ltb-true}
use Rattle.lists.proofs.Tests.{and_left, and_right}
use Rattle.field_host.specs.Carried.{fits}

module _ (ws : List ℕ) (fit : fits ws ≡ true) where
  -- whether a word is below a limit
  abbrev below : ℕ → ℕ → Bool
  below i limit = ltb (get_or ws i 0) limit

  sizes : (below 0 2 && below 1 4294967296 && below 2 4294967296 && below 3 4294967296) ≡ true
  unfolding fits
  sizes = and_left (below 0 2 && below 1 4294967296 && below 2 4294967296 && below 3 4294967296) (below 14 3) fit

  blocks : (below 0 2 && below 1 4294967296 && below 2 4294967296) ≡ true
  blocks = and_left (below 0 2 && below 1 4294967296 && below 2 4294967296) (below 3 4294967296) sizes

  pub inner_fits : get_or ws 1 0 < 4294967296
  inner_fits =
      ltb-true (get_or ws 1 0) 4294967296
      (and_right (below 0 2) (below 1 4294967296) (and_left (below 0 2 && below 1 4294967296) (below 2 4294967296) blocks))

  pub leaf_fits : get_or ws 2 0 < 4294967296
  leaf_fits = ltb-true (get_or ws 2 0) 4294967296 (and_right (below 0 2 && below 1 4294967296) (below 2 4294967296) blocks)

  pub count_fits : get_or ws 3 0 < 4294967296
  count_fits =
      ltb-true (get_or ws 3 0) 4294967296
      (and_right (below 0 2 && below 1 4294967296 && below 2 4294967296) (below 3 4294967296) sizes)
