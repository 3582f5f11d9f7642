-- What counts as a part at a place: its inputs stand below it, and a part whose inputs do is itself.
use Rattle.std.proofs.Common.{◌≡◌, ℕ, Bool, true, false, cond, List, refl, ◌∙◌}
use Rattle.std.proofs.Common.{Float}
use Rattle.lists.proofs.Tables.{get_d_tabulate}
use Rattle.float.specs.Zero.{plus_zero}
use Rattle.model.specs.Part.{inputs_below, placed}
use Rattle.model.specs.Model.{part_of, ordered_to, model_value, part_at, parts_of, parts_value}
use Rattle.model.specs.declared.Part.{Part}
use Rattle.model.specs.declared.Part.TheVariants.{Constant}
use Rattle.model.proofs.InOrder.{ordered_at}
use Rattle.model.proofs.Values.{model_value_cong}

pub placed_below : (p : ℕ) (part : Part) → inputs_below p (placed p part) ≡ true
unfolding placed inputs_below
placed_below p part = one (inputs_below p part) refl
  where
    one : (b : Bool) → inputs_below p part ≡ b → inputs_below p (cond (inputs_below p part) part (Constant plus_zero)) ≡ true
    one true t = rw t t
    one false t = rw t refl

pub placed_same : (p : ℕ) (part : Part) → inputs_below p part ≡ true → placed p part ≡ part
unfolding placed
placed_same p part below = rw below refl

pub placed_zero : (p : ℕ) (part : Part) → inputs_below p part ≡ false → placed p part ≡ Constant plus_zero
unfolding placed
placed_zero p part late = rw late refl

module _ (parts : List Part) where
  pub part_at_below : (p : ℕ) → inputs_below p (part_at parts p) ≡ true
  unfolding part_at
  part_at_below p = placed_below p _

  -- parts in order have the value that the list has
  pub same_value : (count : ℕ) → ordered_to parts count ≡ true → (x y z : Float) → parts_value parts count x y z ≡ model_value parts count x y z
  unfolding part_at
  same_value count ordered x y z =
      model_value_cong (parts_of parts count) parts count x y z
      (λ q below.
      get_d_tabulate count (part_at parts) q (Constant plus_zero) below
      ∙ placed_same q (part_of parts q) (ordered_at parts q count below ordered))
