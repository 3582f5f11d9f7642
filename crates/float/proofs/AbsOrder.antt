-- |v| below a limit, by two comparisons: v and -v are below it.
use Rattle.std.proofs.Common.{◌≡◌, ℕ, ◌+◌, ◌*◌, Bool, true, false, ℤ, refl, arith, ltb-false, le-ltb}
use lib.Ieee.{Float, nan, inf, fin, up, down, neg, lt, below}
use Rattle.float.specs.Sign.{abs_of}

-- a size is not below what minus the size is not below
size_below : (a b : ℕ) (t : Bool) → below true a t b ≡ false → below false a t b ≡ false
size_below a b true e = refl
size_below a b false e = le-ltb a b (omega (arith, ltb-false 0 (a + b) e))

plus_not_below : (m : ℕ) (e : ℤ) (y : Float) → lt (fin true m e) y ≡ false → lt (fin false m e) y ≡ false
unfolding lt
plus_not_below m e nan h = refl
plus_not_below m e (inf t) h = h
plus_not_below m e (fin t n d) h = size_below (m * up e * down d) (n * up d * down e) t h

infinite : (y : Float) → lt (inf false) y ≡ false
unfolding lt
infinite nan = refl
infinite (inf t) = refl
infinite (fin t n d) = refl

pub both_below : (v limit : Float) → lt v limit ≡ true → lt (neg v) limit ≡ true → lt (abs_of v) limit ≡ true
unfolding abs_of neg
both_below nan limit a b = a
both_below (inf false) limit a b = a
both_below (inf true) limit a b = b
both_below (fin false m e) limit a b = a
both_below (fin true m e) limit a b = b

pub not_below : (v limit : Float) → lt v limit ≡ false → lt (abs_of v) limit ≡ false
unfolding abs_of
not_below nan limit h = h
not_below (inf s) limit h = infinite limit
not_below (fin false m e) limit h = h
not_below (fin true m e) limit h = plus_not_below m e limit h

pub minus_not_below : (v limit : Float) → lt (neg v) limit ≡ false → lt (abs_of v) limit ≡ false
unfolding abs_of neg
minus_not_below nan limit h = h
minus_not_below (inf s) limit h = infinite limit
minus_not_below (fin false m e) limit h = plus_not_below m e limit h
minus_not_below (fin true m e) limit h = h
