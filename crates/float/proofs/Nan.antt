-- A value differs from itself exactly where it is a NaN.
use Rattle.std.proofs.Common.{◌≡◌, Bool, true, false, not, T, sym, refl, ◌∙◌, subst}
use lib.Ieee.{Float, nan, inf, fin, binary64, div, of_bits, ne, is_nan}
use lib.Ieee.Compare.{differs_from_itself, nan_differs}

pub only_nan : (x : Float) → ne x x ≡ true → x ≡ nan
only_nan x differs = differs_from_itself x (subst T (sym differs) tt)

pub ne_self : (x : Float) → ne x x ≡ is_nan x
unfolding is_nan
ne_self nan = nan_differs
ne_self (inf s) = same (ne (inf s) (inf s)) refl
  where
    same : (b : Bool) → ne (inf s) (inf s) ≡ b → ne (inf s) (inf s) ≡ false
    same true e = let z : nan ≡ inf s = sym (only_nan (inf s) e) in cc
    same false e = e
ne_self (fin s m k) = same (ne (fin s m k) (fin s m k)) refl
  where
    same : (b : Bool) → ne (fin s m k) (fin s m k) ≡ b → ne (fin s m k) (fin s m k) ≡ false
    same true e = let z : nan ≡ fin s m k = sym (only_nan (fin s m k) e) in cc
    same false e = e

pub no_nan : (x : Float) → ne x x ≡ false → T (not (is_nan x))
no_nan x equal = subst (λ b. T (not b)) (sym (sym (ne_self x) ∙ equal)) tt

-- what the code returns as the NaN
pub zero_by_zero : div binary64 (of_bits binary64 0) (of_bits binary64 0) ≡ nan
unfolding div of_bits
zero_by_zero = refl
