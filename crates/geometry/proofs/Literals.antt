-- The code's literals are the definitions' counts.
use mathlib.Core.Path.{◌≡◌, refl}
use lib.Ieee.{binary64, of_bits, of_int}
use Rattle.geometry.specs.Axis.{as_float}

pub two_point : of_bits binary64 0x4000_0000_0000_0000 ≡ as_float 2
unfolding of_bits of_int
two_point = refl

pub eight_point : of_bits binary64 0x4020_0000_0000_0000 ≡ as_float 8
unfolding of_bits of_int
eight_point = refl
