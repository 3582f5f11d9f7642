-- The pruning rule by the two comparisons of the code.
use Rattle.std.proofs.Common.{◌≡◌, true, false, refl}
use lib.Ieee.{Float, binary64, add, sub, lt}
use Rattle.grid.specs.Pruning.{pruned}

module _ (least most lo hi h : Float) where
  pub pruned_below : {top : Float} → top ≡ hi → lt (add binary64 top h) least ≡ true → true ≡ pruned least most lo hi h
  unfolding pruned
  pruned_below e held =
      let first : lt (add binary64 hi h) least ≡ true = cc in
      rw first refl

  pub pruned_above : {top low : Float} → top ≡ hi → low ≡ lo → lt (add binary64 top h) least ≡ false → lt most (sub binary64 low h) ≡ pruned least most lo hi h
  unfolding pruned
  pruned_above e e' failed =
      let first : lt (add binary64 hi h) least ≡ false = cc in
      rw (first, e') refl
