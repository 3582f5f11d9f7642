-- What the corner list of a node answers and leaves in the list that it is lent (rules G16 and G17).
use Rattle.std.specs.Prelude.{◌≡◌, ℕ, ◌+◌, ◌<◌, ◌≤◌, Bool, not, ◌||◌, List, [], ◌∷◌, length, take, ◌==◌, nat_lt, slice_index, Result, Ok, Err}
use Rattle.causes.specs.declared.Cause.{Cause}
use Rattle.causes.specs.declared.Cause.TheVariants.{BlockSize, TooShort}
use Rattle.causes.specs.First.{Test, refused_if, first_of}
use Rattle.lists.specs.Ranges.{count_below, among}
use Rattle.grid.specs.Blocks.{is_block, cube}
use Rattle.grid.specs.Corners.{needed}

-- the test for active children from one node's kinds: every kind but 0 is (rule G16)
unfoldable pub nonzero_at : List ℕ → ℕ → Bool
nonzero_at kinds c = not (slice_index kinds c == 0)

-- 2 for the block size, then 6 for the lengths of the kinds and of the list (rule G17)
unfoldable pub corner_list_causes : (n kinds list : ℕ) → List Test
corner_list_causes n kinds list =
    refused_if (not (is_block n)) BlockSize ∷ refused_if (not (kinds == cube n) || nat_lt list (cube (n + 1))) TooShort ∷ []

-- the answer, from n, the kinds and the list's length: how many corners are needed (rules G16 and G17)
unfoldable pub corner_list_of : ℕ → List ℕ → ℕ → Result ℕ Cause
corner_list_of n kinds list =
    first_of (corner_list_causes n (length kinds) list) (count_below (cube (n + 1)) (needed n (nonzero_at kinds)))

-- a list whose first `count` elements are the corners that pass a test, no one twice, in whatever order, and which is zero from there on
-- (rule G16)
pub record CornersOnce (test : ℕ → Bool) (count : ℕ) (list : List ℕ) : Type 0 where
  pub within : count ≤ length list
  pub exactly : (corner : ℕ) → among corner (take count list) ≡ test corner
  pub once : (p q : ℕ) → p < count → q < count → slice_index list p ≡ slice_index list q → p ≡ q
  pub rest : (p : ℕ) → count ≤ p → slice_index list p ≡ 0

-- what the lent list holds after the answer: a refusal leaves it as it was (rules G16 and C54)
abbrev pub HoldsCorners : Result ℕ Cause → ℕ → (kinds before after : List ℕ) → Type 0
HoldsCorners (Ok count) n kinds before after = (length after ≡ length before) × CornersOnce (needed n (nonzero_at kinds)) count after
HoldsCorners (Err cause) n kinds before after = after ≡ before
