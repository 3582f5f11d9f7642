-- What trials of a root say.
use Rattle.std.specs.Prelude.{ℕ, ◌+◌, ◌*◌, ◌^◌, ◌≤◌, ◌<◌, ◌≡◌, List, get_or, Float}
use Rattle.std.specs.Float.{nan, binary64}
use Rattle.std.specs.Float.Ieee.{of_bits}
use Rattle.root.specs.Inner.Reduced.{scaled}
use Rattle.root.specs.Nearest.{nearest_root}
use Rattle.root.specs.Root.{square_root}

-- two whole numbers that are less than 2 ^ 57 apart
pub record Near (m n : ℕ) : Type 0 where
  pub above : n < m + 2 ^ 57
  pub below : m < n + 2 ^ 57

-- d are the digits that a trial of the reduced operand p takes for its root's, with o objections
pub record TriedDigits (p d o : ℕ) : Type 0 where
  pub most : d ≤ 2 ^ 53
  pub few : o ≤ 66
  pub nearest : o ≡ 0 → d ≡ nearest_root (scaled p)

-- t is what a trial of x says: the bits of its root, or 2 ^ 63 and more
pub record Tried (x : Float) (t : ℕ) : Type 0 where
  pub number : t < 2 ^ 63 → t ≤ 2047 * 2 ^ 52
  pub root : t < 2 ^ 63 → of_bits binary64 t ≡ square_root x

-- the first n of `ts` are what trials of the first n of `xs` say
pub record AllTried (n : ℕ) (xs : List Float) (ts : List ℕ) : Type 0 where
  pub each : (k : ℕ) → k < n → Tried (get_or xs k nan) (get_or ts k 0)
