-- Two cases of numbers: below another or not, equal or not. A test that cannot pass.
use mathlib.Core.Path.{◌≡◌, refl}
use mathlib.Core.Bool.{Bool, true, false}
use Prim.Native.Nat.{ℕ, ◌≤◌, ◌<◌}
use native.Mathlib.Omega.{arith}
use borrow.Author.Tests.{ltb-true, ltb-false, eqb-true, eqb-false}
use lib.Dec.{ltb, eqb}

pub below_or : {A : Type 0} (x n : ℕ) → (x < n → A) → (n ≤ x → A) → A
below_or {A} x n less more = by (ltb x n) refl
  where
    by : (t : Bool) → ltb x n ≡ t → A
    by true e = less (ltb-true x n e)
    by false e = more (ltb-false x n e)

pub equal_or : {A : Type 0} (x n : ℕ) → (x ≡ n → A) → ((x ≡ n → ⊥) → A) → A
equal_or {A} x n same other = by (eqb x n) refl
  where
    by : (t : Bool) → eqb x n ≡ t → A
    by true e = same (eqb-true x n e)
    by false e = other (eqb-false x n e)

pub never : {A : Type 0} → false ≡ true → A
never same = let none : ◌≡◌ {A = ℕ} 0 1 = cc in absurd (omega arith)
