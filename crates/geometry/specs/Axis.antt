-- An axis from one end to the other in equal steps (rule B10). Children, leaf points and walks stand by it.
use Rattle.std.specs.Prelude.{ℕ, pos, Float}
use Rattle.std.specs.Float.{binary64}
use Rattle.std.specs.Float.Ieee.{add, sub, mul, div, of_int}

-- a count as a float (rule F12)
abbrev pub as_float : ℕ → Float
as_float n = of_int binary64 (pos n)

-- one step of so many between the ends (rule B10)
unfoldable pub step_along : (least most : Float) → (steps : ℕ) → Float
step_along least most steps = div binary64 (sub binary64 most least) (as_float steps)

-- where number i stands (rule B10)
unfoldable pub along : (least most : Float) → (steps i : ℕ) → Float
along least most steps i = add binary64 least (mul binary64 (as_float i) (step_along least most steps))

-- one step further: where a child or a cell that begins there ends (rule B10)
unfoldable pub along_end : (least most : Float) → (steps i : ℕ) → Float
along_end least most steps i = add binary64 (along least most steps i) (step_along least most steps)
