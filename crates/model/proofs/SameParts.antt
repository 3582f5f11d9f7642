-- A model's value depends on its parts below the count alone (rule M1).
use Prim.Native.Nat.{ℕ, zero, suc, ◌-◌, ◌<◌}
use mathlib.Core.Path.{◌≡◌, refl, ap, ap₂}
use mathlib.Core.List.{List, [], ◌∷◌, ◌++◌}
use native.Mathlib.Omega.{arith}
use lib.Ieee.{Float}
use lib.ListN.{get_or}
use Rattle.float.specs.Zero.{plus_zero}
use Rattle.model.specs.declared.Part.{Part}
use Rattle.model.specs.Part.{part_value}
use Rattle.model.specs.Model.{part_of, values_to, model_value}

module _ (ps qs : List Part) (x y z : Float) where
  same_values : (n : ℕ) → ((p : ℕ) → p < n → part_of ps p ≡ part_of qs p) → values_to ps x y z n ≡ values_to qs x y z n
  unfolding values_to
  same_values zero same = refl
  same_values (suc n) same =
      let part : part_of ps n ≡ part_of qs n = same n (omega arith) in
      ap₂ (λ (q : Part) (earlier : List Float). earlier ++ (part_value q x y z earlier ∷ [])) part (same_values n (λ p h. same p (omega arith)))

  pub same_value : (n : ℕ) → ((p : ℕ) → p < n → part_of ps p ≡ part_of qs p) → model_value ps n x y z ≡ model_value qs n x y z
  unfolding model_value
  same_value n same = ap (λ (vs : List Float). get_or vs (n - 1) plus_zero) (same_values n same)
