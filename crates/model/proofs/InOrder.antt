-- Which parts have their inputs before them.
use mathlib.Core.Path.{◌≡◌, refl, sym, ◌∙◌}
use mathlib.Core.Bool.{Bool, true, false, and-false}
use mathlib.Core.List.{List}
use Prim.Native.Nat.{ℕ, zero, suc, ◌<◌}
use native.Mathlib.Nat.{not-suc-le-zero}
use native.Mathlib.Omega.{arith}
use lib.Dec.{ltb}
use borrow.Author.Tests.{ltb-true, ltb-false}
use Rattle.model.specs.Part.{inputs_below}
use Rattle.model.specs.Model.{part_of, ordered_to}
use Rattle.model.specs.declared.Part.{Part}

-- one part that has not is enough
pub unordered : (parts : List Part) (p count : ℕ) → p < count → inputs_below p (part_of parts p) ≡ false → ordered_to parts count ≡ false
unfolding ordered_to
unordered parts p zero h e = absurd (not-suc-le-zero h)
unordered parts p (suc n) h e = one (ltb p n) refl (λ earlier. unordered parts p n earlier e)
  where
    one : (b : Bool) → ltb p n ≡ b → (p < n → ordered_to parts n ≡ false) → ordered_to parts (suc n) ≡ false
    one true t before = rw (before (ltb-true p n t)) refl
    one false t before =
        let last : p ≡ n = omega (arith, ltb-false p n t) in
        rw (← last) (rw e (and-false (ordered_to parts p)))

-- each part has, where all have
pub ordered_at : (parts : List Part) (p count : ℕ) → p < count → ordered_to parts count ≡ true → inputs_below p (part_of parts p) ≡ true
ordered_at parts p count h e = one (inputs_below p (part_of parts p)) refl
  where
    one : (b : Bool) → inputs_below p (part_of parts p) ≡ b → inputs_below p (part_of parts p) ≡ true
    one true t = t
    one false t = let never : true ≡ false = sym e ∙ unordered parts p count h t in t ∙ sym never
