-- The values of a list of parts: how many there are, and what they depend on.
use mathlib.Core.Path.{◌≡◌, refl, ap, ◌∙◌}
use mathlib.Core.Bool.{true, ◌&&◌}
use mathlib.Core.List.{List, [], ◌∷◌, ◌++◌}
use Prim.Native.Nat.{ℕ, zero, suc, ◌-◌, ◌<◌}
use native.Mathlib.Omega.{arith}
use lib.Dec.{ltb}
use lib.ListN.{length, get_or}
use lib.Ieee.{Float, binary64, add, sub, neg}
use borrow.Author.Tests.{ltb-true}
use Rattle.lists.proofs.Tests.{and_left, and_right}
use Rattle.lists.proofs.Tables.{length_more}
use Rattle.float.specs.Select.{min_of, max_of}
use Rattle.float.specs.Zero.{plus_zero}
use Rattle.model.specs.Part.{past, part_value, inputs_below}
use Rattle.model.specs.Model.{part_of, values_to, model_value}
use Rattle.model.specs.declared.Part.{Part}
use Rattle.model.specs.declared.Part.TheVariants.{Constant, Sphere, Plane, Min, Max, Add, Sub, Neg}

pub length_values_to : (parts : List Part) (x y z : Float) (p : ℕ) → length (values_to parts x y z p) ≡ p
unfolding values_to
length_values_to parts x y z zero = refl
length_values_to parts x y z (suc p) = length_more (values_to parts x y z p) _ ∙ ap suc (length_values_to parts x y z p)

-- two lists that agree below p
abbrev pub Agree : (u v : List Float) → ℕ → Type 0
Agree u v p = (q : ℕ) → q < p → get_or u q past ≡ get_or v q past

two : (f : Float → Float → Float) (u v : List Float) (a b p : ℕ) → (ltb a p && ltb b p) ≡ true → Agree u v p
    → f (get_or u a past) (get_or u b past) ≡ f (get_or v a past) (get_or v b past)
two f u v a b p below same =
    let first = same a (ltb-true a p (and_left _ _ below)) in
    let second = same b (ltb-true b p (and_right (ltb a p) _ below)) in
    λ i. f (first i) (second i)

-- a part whose inputs stand below p reads the values below p alone
pub reads_below : (part : Part) (x y z : Float) (u v : List Float) (p : ℕ) → inputs_below p part ≡ true → Agree u v p
    → part_value part x y z u ≡ part_value part x y z v
unfolding part_value inputs_below
reads_below (Constant w) x y z u v p below same = refl
reads_below (Sphere centre r) x y z u v p below same = refl
reads_below (Plane n d) x y z u v p below same = refl
reads_below (Min a b) x y z u v p below same = two min_of u v a b p below same
reads_below (Max a b) x y z u v p below same = two max_of u v a b p below same
reads_below (Add a b) x y z u v p below same = two (add binary64) u v a b p below same
reads_below (Sub a b) x y z u v p below same = two (sub binary64) u v a b p below same
reads_below (Neg a) x y z u v p below same = ap neg (same a (ltb-true a p below))

-- the values of the first p parts depend on those parts alone
pub values_to_cong : (parts others : List Part) (x y z : Float) (p : ℕ) → ((q : ℕ) → q < p → part_of parts q ≡ part_of others q)
    → values_to parts x y z p ≡ values_to others x y z p
unfolding values_to
values_to_cong parts others x y z zero same = refl
values_to_cong parts others x y z (suc p) same =
    let earlier : values_to parts x y z p ≡ values_to others x y z p = values_to_cong parts others x y z p (λ q h. same q (omega arith)) in
    let last : part_of parts p ≡ part_of others p = same p (omega arith) in
    λ i. earlier i ++ (part_value (last i) x y z (earlier i) ∷ [])

pub model_value_cong : (parts others : List Part) (count : ℕ) (x y z : Float) → ((q : ℕ) → q < count → part_of parts q ≡ part_of others q)
    → model_value parts count x y z ≡ model_value others count x y z
unfolding model_value
model_value_cong parts others count x y z same =
    ap (λ (values : List Float). get_or values (count - 1) plus_zero) (values_to_cong parts others x y z count same)
