-- An operand reduced by a power of four to a number a in [1/2, 2), given by its bit pattern.
use Rattle.std.specs.Prelude.{ℕ, ◌+◌, ◌-◌, ◌*◌, ◌/◌, ◌%◌, ◌^◌, ◌≤◌, ◌<◌}

-- p is the pattern of such an a
pub record Reduced (p : ℕ) : Type 0 where
  pub least : 1022 * 2 ^ 52 ≤ p
  pub most : p < 1024 * 2 ^ 52

-- the 53 digits of a pattern, doubled where its exponent is even: the operand but for a power of four
abbrev pub top : ℕ → ℕ
top p = (p % 2 ^ 52 + 2 ^ 52) * (2 - p / 2 ^ 52 % 2)

-- the same as a whole number of 105 or 106 digits: the whole number nearest to its root has the root's 53 digits
abbrev pub scaled : ℕ → ℕ
scaled p = top p * 2 ^ 52
