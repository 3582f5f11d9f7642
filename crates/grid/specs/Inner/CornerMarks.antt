-- How the corner list is made: a mark at each needed corner, then the marked places in a row.
use Rattle.std.specs.Prelude.{◌≡◌, ℕ, ◌+◌, ◌*◌, ◌<◌, ◌≤◌, Bool, cond, ◌&&◌, List, [], ◌∷◌, length, take, slice_index, slice_set}
use Rattle.lists.specs.Ranges.{any_below, count_below, list_below, among}
use Rattle.grid.specs.Blocks.{cube}
use Rattle.grid.specs.Corners.{octet}
use Rattle.grid.specs.CornerList.{nonzero_at}

-- a 1 at each of some places
unfoldable pub marked : List ℕ → List ℕ → List ℕ
marked list [] = list
marked list (p ∷ places) = marked (slice_set list p 1) places

-- the eight corners of a child whose first corner is p, among m by m by m corners
unfoldable pub eight_from : (p m : ℕ) → List ℕ
eight_from p m =
    p ∷ (p + 1) ∷ (p + m + 1) ∷ (p + m) ∷ (p + m * m) ∷ (p + m * m + 1) ∷ (p + m * m + m + 1) ∷ (p + m * m + m) ∷ []

-- whether one of the children before c is active and has the corner
unfoldable pub needed_to : (n : ℕ) → (ℕ → Bool) → (c corner : ℕ) → Bool
needed_to n act c corner = any_below c (λ c. act c && among corner (octet n c))

-- a 1 at each corner that the children before c need, and a 0 at the others
pub record Marks (n : ℕ) (kinds : List ℕ) (c : ℕ) (list : List ℕ) : Type 0 where
  pub long : cube (n + 1) ≤ length list
  pub marks : (p : ℕ) → p < cube (n + 1) → slice_index list p ≡ cond (needed_to n (nonzero_at kinds) c p) 1 0

-- a list that begins with the places below n that were nonzero, in a row
pub record Gathered (n : ℕ) (before after : List ℕ) (count : ℕ) : Type 0 where
  pub kept : length after ≡ length before
  pub few : count ≤ n
  pub counted : count ≡ count_below n (nonzero_at before)
  pub front : take count after ≡ list_below n (nonzero_at before)
