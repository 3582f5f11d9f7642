-- How many bytes the line of a child has, by its kind.
use Rattle.std.specs.Prelude.{ℕ, ◌+◌, ◌*◌, ◌/◌, ◌%◌, ◌<◌, ◌≤◌, cond, List, [], ◌∷◌, eqb, length, get_or}
use Rattle.forms.specs.Forms.{spell}
use Rattle.listing.specs.Lines.{leaf_form, leaf_end, constant_form}

-- a leaf's value has 17 bytes, a space and 16 digits
unfoldable pub leaf_length : (points v c : ℕ) → ℕ
leaf_length points v c = length (spell leaf_form (v ∷ c ∷ [])) + (17 * points + length leaf_end)

-- a number has 16 digits, whatever it is
unfoldable pub constant_length : (v c : ℕ) → ℕ
constant_length v c = length (spell constant_form (v ∷ c ∷ 0 ∷ []))

-- of the child of this kind
unfoldable pub kind_length : (points v c kind : ℕ) → ℕ
kind_length points v c kind = cond (eqb kind 0) 0 (cond (eqb kind 2) (leaf_length points v c) (constant_length v c))

-- of the child at place j of all children
unfoldable pub length_at : (children points : ℕ) → List ℕ → ℕ → ℕ
length_at children points kinds j = kind_length points (j / children) (j % children) (get_or kinds j 0)

-- sizes of an accepted input: there are children, a leaf has few points, and there are few children in all
pub record Sizes (total children points : ℕ) : Type 0 where
  pub some : 0 < children
  pub size : points ≤ 262144
  pub few : total ≤ 16777216
