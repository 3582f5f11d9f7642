-- Tests joined by `&&` and `||`: what the whole says of its parts, and the parts of the whole.
use mathlib.Core.Path.{◌≡◌, refl, ◌∙◌}
use mathlib.Core.Bool.{Bool, true, false, ◌&&◌, ◌||◌, beq}

-- where `a || b` does not hold, neither part does
pub or_left : (a b : Bool) → (a || b) ≡ false → a ≡ false
or_left true b e = e
or_left false b e = refl

pub or_right : (a b : Bool) → (a || b) ≡ false → b ≡ false
or_right true true e = e
or_right true false e = refl
or_right false b e = e

-- where `a && b` holds, both parts do
pub and_left : (a b : Bool) → (a && b) ≡ true → a ≡ true
and_left true b e = refl
and_left false b e = e

pub and_right : (a b : Bool) → (a && b) ≡ true → b ≡ true
and_right true b e = e
and_right false true e = refl
and_right false false e = e

-- a test equals itself
pub beq_self : (b : Bool) → beq b b ≡ true
beq_self true = refl
beq_self false = refl

-- what `a && b` leaves in its flag g: b where a held, else a itself
pub and_then : {a b g : Bool} → a ≡ true → g ≡ b → g ≡ (a && b)
and_then held same = rw held same

pub and_else : {a g : Bool} (b : Bool) → a ≡ false → g ≡ a → g ≡ (a && b)
and_else b failed same = same ∙ failed ∙ rw failed refl

-- tests in a row that do not hold, and one more
pub or_fifth : (a b c d e : Bool) → a ≡ false → b ≡ false → c ≡ false → d ≡ false → e ≡ (a || b || c || d || e)
or_fifth a b c d e ha hb hc hd = rw (ha, hb, hc, hd) refl
