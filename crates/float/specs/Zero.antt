-- The zero that a field's values start from.
use Rattle.std.specs.Prelude.{from_bits, Float}
use Rattle.std.specs.Float.{binary64}

-- +0, the float whose bits are all 0
abbrev pub plus_zero : Float
plus_zero = from_bits binary64 0
