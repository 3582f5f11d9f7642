-- A value is finite exactly where it lies between the infinities.
use Rattle.std.proofs.Common.{◌≡◌, true, false, sym, refl, true≢false}
use lib.Ieee.{Float, nan, inf, fin, lt}
use lib.Ieee.Scale.{finite}

pub above_lowest : (x : Float) → lt (inf true) x ≡ true → lt x (inf false) ≡ finite x
unfolding lt
above_lowest nan above = refl
above_lowest (inf false) above = refl
above_lowest (inf true) above = sym above
above_lowest (fin s m e) above = refl

pub lowest : (x : Float) → lt (inf true) x ≡ false → false ≡ finite x
unfolding lt
lowest nan below = refl
lowest (inf s) below = refl
lowest (fin s m e) below = absurd (true≢false below)
