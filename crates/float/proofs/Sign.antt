-- The sign is the bit of weight 2 ^ 63, and the bits below it are those of the size.
use Rattle.std.proofs.Common.{◌≡◌, ◌+◌, ◌-◌, ◌%◌, ◌^◌, ◌<◌, Bool, true, false, cond, T, leb, sym, refl, ap, ◌∙◌, arith, le-leb}
use borrow.Author.Tests.{lt-leb}
use lib.Bits.{bit_and, and_mask}
use lib.Ieee.{Float, nan, inf, fin, binary64, fits, neg, of_bits, to_bits}
use lib.Ieee.Bits.{of_bits-to_bits, to_bits-lt}
use lib.Ieee.Fits.{inf-fits, neg-fits}
use Rattle.float.specs.Sign.{abs_of, negative}

pub abs_fits : (x : Float) → T (fits binary64 x) → T (fits binary64 (abs_of x))
unfolding abs_of neg
abs_fits nan f = f
abs_fits (inf s) f = inf-fits binary64 false
abs_fits (fin false m e) f = f
abs_fits (fin true m e) f = neg-fits binary64 (fin true m e) f

pub abs_positive : (x : Float) → negative (abs_of x) ≡ false
unfolding abs_of negative
abs_positive nan = refl
abs_positive (inf s) = refl
abs_positive (fin s m e) = refl

pub abs_plus : (x : Float) → negative x ≡ false → abs_of x ≡ x
unfolding abs_of negative
abs_plus nan plus = refl
abs_plus (inf s) plus = ap inf (sym plus)
abs_plus (fin s m e) plus = ap (λ t. fin t m e) (sym plus)

pub neg_abs : (x : Float) → negative x ≡ true → neg (abs_of x) ≡ x
unfolding abs_of negative neg
neg_abs nan minus = refl
neg_abs (inf s) minus = ap inf (sym minus)
neg_abs (fin s m e) minus = ap (λ t. fin t m e) (sym minus)

-- the bits are the sign's, and below it those of the size
pub record SignBit (x : Float) : Type 0 where
  pub split : to_bits binary64 x ≡ cond (negative x) (2 ^ 63) 0 + to_bits binary64 (abs_of x)
  pub low : to_bits binary64 (abs_of x) < 2 ^ 63

pub sign_bit : (x : Float) → T (fits binary64 x) → SignBit x
unfolding abs_of negative to_bits neg
sign_bit nan f = record { split = refl; low = omega arith }
sign_bit (inf false) f = record { split = refl; low = omega arith }
sign_bit (inf true) f = record { split = refl; low = omega arith }
sign_bit (fin false m e) f = record { split = omega arith; low = omega (arith, to_bits-lt binary64 (fin true m e) (neg-fits binary64 (fin false m e) f)) }
sign_bit (fin true m e) f = record { split = omega arith; low = omega (arith, to_bits-lt binary64 (fin true m e) f) }

pub negative_test : (x : Float) → T (fits binary64 x) → leb (2 ^ 63) (to_bits binary64 x) ≡ negative x
negative_test x f = by (negative x) (sign_bit x f).split
  where
    by : (s : Bool) → to_bits binary64 x ≡ cond s (2 ^ 63) 0 + to_bits binary64 (abs_of x) → leb (2 ^ 63) (to_bits binary64 x) ≡ s
    by true e = le-leb (2 ^ 63) (to_bits binary64 x) (omega arith)
    by false e = lt-leb (2 ^ 63) (to_bits binary64 x) (omega (arith, (sign_bit x f).low))

pub cleared : (x : Float) → T (fits binary64 x) → bit_and (to_bits binary64 x) (2 ^ 63 - 1) ≡ to_bits binary64 (abs_of x)
cleared x f = and_mask (to_bits binary64 x) 63 ∙ by (negative x) (sign_bit x f).split
  where
    by : (s : Bool) → to_bits binary64 x ≡ cond s (2 ^ 63) 0 + to_bits binary64 (abs_of x) → to_bits binary64 x % 2 ^ 63 ≡ to_bits binary64 (abs_of x)
    by true e = omega (arith, (sign_bit x f).low)
    by false e = omega (arith, (sign_bit x f).low)

-- a value with the sign's bit cleared is its size
pub cleared_abs : (x : Float) → T (fits binary64 x) → of_bits binary64 (bit_and (to_bits binary64 x) (2 ^ 63 - 1)) ≡ abs_of x
cleared_abs x f = rw (cleared x f) (of_bits-to_bits binary64 (abs_of x) (abs_fits x f))
