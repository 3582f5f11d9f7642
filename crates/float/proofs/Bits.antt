-- Bit patterns: there and back, and the test for a NaN's.
use Rattle.std.proofs.Common.{◌≡◌, ℕ, ◌-◌, ◌^◌, ◌<◌, true, not, T, ltb, sym, refl, ap, ◌∙◌, subst}
use mathlib.Core.Bool.{false≢true}
use lib.Bits.{bit_and, and_mask}
use lib.Ieee.{Float, nan, inf, fin, binary64, fits, is_nan, nan_bits, of_bits, to_bits}
use lib.Ieee.Bits.{of_bits-to_bits, to_bits-of_bits, nan_bits_is, nan_bits_above}

-- a value's bits give the value back
pub to_from : (x : Float) → T (fits binary64 x) → of_bits binary64 (to_bits binary64 x) ≡ x
to_from x f = of_bits-to_bits binary64 x f

-- a pattern's value gives the pattern back, unless it is a NaN's
pub from_to : (b : ℕ) → b < 2 ^ 64 → T (not (nan_bits binary64 b)) → to_bits binary64 (of_bits binary64 b) ≡ b
from_to b small number = to_bits-of_bits binary64 b small (subst (λ t. T (not t)) (nan_bits_is binary64 b) number)

-- the pattern that is written for a NaN
pub nan_pattern : to_bits binary64 nan ≡ 0x7ff8_0000_0000_0000
unfolding to_bits
nan_pattern = refl

-- without the sign's bit a NaN's pattern is above the infinity's
pub nan_test : (b : ℕ) → ltb 0x7ff0_0000_0000_0000 (bit_and b (2 ^ 63 - 1)) ≡ nan_bits binary64 b
nan_test b = ap (ltb 0x7ff0_0000_0000_0000) (and_mask b 63) ∙ sym (nan_bits_above binary64 b)

pub nan_value : (b : ℕ) → nan_bits binary64 b ≡ true → of_bits binary64 b ≡ nan
unfolding is_nan
nan_value b is = only (of_bits binary64 b) (sym (nan_bits_is binary64 b) ∙ is)
  where
    only : (x : Float) → is_nan x ≡ true → x ≡ nan
    only nan e = refl
    only (inf s) e = absurd (false≢true e)
    only (fin s m k) e = absurd (false≢true e)
