-- A model that cause 4 does not refuse: its count, its order and its value.
use mathlib.Core.Path.{◌≡◌, ap, ◌∙◌}
use mathlib.Core.Bool.{true, false, ◌||◌}
use Prim.Native.Nat.{ℕ, min, ◌≤◌}
use native.Mathlib.Nat.{min-eq_left}
use lib.Dec.{eqb, ltb}
use lib.Ieee.{Float}
use borrow.Author.Tests.{ltb-false, not-false}
use Rattle.lists.proofs.Tests.{or_left, or_right}
use Rattle.model.specs.Model.{ordered_to, model_value, refused_by_four, parts_in, parts_value}
use Rattle.model.specs.declared.ImplicitModel.{ImplicitModel}
use Rattle.model.proofs.Placed.{same_value}

module _ (m : ImplicitModel) (passed : refused_by_four m ≡ false) where
  pub count_le : m.count ≤ 64
  unfolding refused_by_four
  count_le = ltb-false 64 m.count (or_right (eqb m.count 0) _ (or_left _ _ passed))

  pub in_order : ordered_to (parts_in m) m.count ≡ true
  unfolding refused_by_four
  in_order = not-false _ (or_right (eqb m.count 0 || ltb 64 m.count) _ passed)

  -- its value is that of its parts of any contents
  pub accepted_value : (x y z : Float) → parts_value (parts_in m) (min m.count 64) x y z ≡ model_value (parts_in m) m.count x y z
  accepted_value x y z =
      ap (λ (n : ℕ). parts_value (parts_in m) n x y z) (min-eq_left count_le)
      ∙ same_value (parts_in m) m.count in_order x y z
