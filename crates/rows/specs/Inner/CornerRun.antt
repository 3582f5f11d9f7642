-- A node's needed corners, evaluated in ascending order while the budget lasts (rules S5 and S14).
use Rattle.std.specs.Prelude.{ℕ, zero, suc, ◌+◌, ◌-◌, ◌≤◌, ◌≡◌, ◌⊎◌, Bool, true, cond, List, set, Float}
use Rattle.lists.specs.Sums.{sum_from, bit}

-- how many of r corners from i on pass the test
abbrev pub needed_from : (ℕ → Bool) → (r i : ℕ) → ℕ
needed_from test r i = sum_from (λ i. bit (test i)) r i

-- the list with the values of those of r corners from i on that pass the test
unfoldable pub evaluated_from : (ℕ → Bool) → (ℕ → Float) → (r i : ℕ) → List Float → List Float
evaluated_from test value zero i l = l
evaluated_from test value (suc r) i l = evaluated_from test value r (suc i) (cond (test i) (set l i (value i)) l)

-- from corner i on with a budget b: it stops at `next` with `left` of the budget, past the last of `total` corners, or before a needed corner with no budget
pub record CornerRun (test : ℕ → Bool) (value : ℕ → Float) (total i b next left : ℕ) (before after : List Float) : Type 0 where
  pub from : i ≤ next
  pub within : next ≤ total
  pub spent : needed_from test (next - i) i + left ≡ b
  pub written : after ≡ evaluated_from test value (next - i) i before
  pub stops : (next ≡ total) ⊎ ((left ≡ 0) × (test next ≡ true))
