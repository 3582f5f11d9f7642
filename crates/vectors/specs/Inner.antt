-- What inner functions need.
use Rattle.std.specs.Prelude.{◌≡◌, ℕ, ◌+◌, ◌<◌, ◌≤◌, List, length, slice_index}

-- so many bytes of a text from a place on
pub record IsPart (s : List ℕ) (at count : ℕ) (part : List ℕ) : Type 0 where
  pub inside : at + count ≤ length s
  pub counted : length part ≡ count
  pub same : (k : ℕ) → k < count → slice_index part k ≡ slice_index s (at + k)
