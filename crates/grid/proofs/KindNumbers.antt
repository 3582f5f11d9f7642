-- What a lent number is, by the kind that it stands for.
use Rattle.std.proofs.Common.{◌≡◌, ℕ, zero, suc, refl}
use native.Mathlib.Omega.{arith}
use Rattle.grid.specs.declared.Kind.TheVariants.{Empty, Active, Leaf}
use Rattle.grid.specs.Kinds.{kind_of}

pub empty_number : (k : ℕ) → kind_of k ≡ Empty → k ≡ 0
empty_number zero e = refl
empty_number (suc zero) e = cc
empty_number (suc (suc zero)) e = cc
empty_number (suc (suc (suc n))) e = cc

pub leaf_number : (k : ℕ) → kind_of k ≡ Leaf → k ≡ 2
leaf_number zero e = cc
leaf_number (suc zero) e = cc
leaf_number (suc (suc zero)) e = refl
leaf_number (suc (suc (suc n))) e = cc

pub active_number : (k : ℕ) → kind_of k ≡ Active → (k ≡ 0 → ⊥) × (k ≡ 2 → ⊥)
active_number zero e = cc
active_number (suc zero) e = (λ none. omega arith, λ two. omega arith)
active_number (suc (suc zero)) e = cc
active_number (suc (suc (suc n))) e = (λ none. omega arith, λ two. omega arith)
