-- Floor and ceiling, without error (rule F4).
-- A finite value's size is the fraction m * up e / down e. The result has the value's sign (rule F5), so that the floor of -0 is -0 and
-- the ceiling of -0.5 is -0.
-- `round` to binary64 changes nothing here: the whole numbers that arise are values of the format (proofs/Whole).
use Rattle.std.specs.Prelude.{ℕ, suc, ◌*◌, ◌/◌, ◌%◌, true, false, cond, ℤ, ◌==◌, Float}
use Rattle.std.specs.Float.{nan, inf, fin, binary64}
use Rattle.std.specs.Float.Ieee.{up, down, round}

-- the size without its fraction
abbrev pub whole_below : ℕ → ℤ → ℕ
whole_below m e = m * up e / down e

-- the same, and one more where a fraction is left
abbrev pub whole_above : ℕ → ℤ → ℕ
whole_above m e = cond (m * up e % down e == 0) (whole_below m e) (suc (whole_below m e))

-- the greatest whole number that is not above the value (rules F4 and F5)
unfoldable pub floor_of : Float → Float
floor_of nan = nan
floor_of (inf s) = inf s
floor_of (fin false m e) = round binary64 false (whole_below m e) 1
floor_of (fin true m e) = round binary64 true (whole_above m e) 1

-- the least whole number that is not below the value (rules F4 and F5)
unfoldable pub ceil_of : Float → Float
ceil_of nan = nan
ceil_of (inf s) = inf s
ceil_of (fin false m e) = round binary64 false (whole_above m e) 1
ceil_of (fin true m e) = round binary64 true (whole_below m e) 1
