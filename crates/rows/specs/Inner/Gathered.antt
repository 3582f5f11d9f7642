-- Needed corners found in ascending order, as many as a row is to hold.
use Rattle.std.specs.Prelude.{ℕ, zero, suc, ◌-◌, ◌≤◌, ◌≡◌, ◌⊎◌, Bool, true, cond, List, [], ◌∷◌, take}
use Rattle.rows.specs.Inner.CornerRun.{needed_from}

-- those of r corners from i on that pass the test
unfoldable pub needed_list : (ℕ → Bool) → (r i : ℕ) → List ℕ
needed_list test zero i = []
needed_list test (suc r) i = cond (test i) (i ∷ needed_list test r (suc i)) (needed_list test r (suc i))

-- from corner i on all before `next` have been tested, and the list begins with the `count` that passed
pub record Gathering (test : ℕ → Bool) (i next count : ℕ) (list : List ℕ) : Type 0 where
  pub from : i ≤ next
  pub counted : needed_from test (next - i) i ≡ count
  pub listed : take count list ≡ needed_list test (next - i) i

-- the search ends past the last of `total` corners, or at a needed corner that is one too many
pub record Gathered (test : ℕ → Bool) (total i most count next : ℕ) (list : List ℕ) : Type 0 where
  pub found : Gathering test i next count list
  pub within : next ≤ total
  pub few : count ≤ most
  pub stops : (next ≡ total) ⊎ ((count ≡ most) × (test next ≡ true))
