-- The values of parts of any contents, written part by part over the front of a list.
use mathlib.Core.Path.{◌≡◌, refl, sym, ap, ◌∙◌}
use mathlib.Core.List.{List, [], ◌∷◌, ◌++◌}
use Prim.Native.Nat.{ℕ, suc, ◌+◌, ◌-◌, ◌≤◌, ◌<◌}
use native.Mathlib.Numerals.{add-one}
use native.Mathlib.Omega.{arith}
use lib.ListN.{length, get_or, set, drop, length-append, length-drop, get_or-append}
use lib.Ieee.{Float}
use Rattle.std.proofs.lemmas.List.{get_or_default}
use Rattle.lists.proofs.Lists.{front_set}
use Rattle.lists.proofs.Tables.{get_d_tabulate}
use Rattle.float.specs.Zero.{plus_zero}
use Rattle.model.specs.Part.{past, part_value}
use Rattle.model.specs.Model.{part_of, values_to, model_value, part_at, parts_of}
use Rattle.model.specs.declared.Part.{Part}
use Rattle.model.specs.declared.Part.TheVariants.{Constant}
use Rattle.model.proofs.Values.{length_values_to, reads_below}
use Rattle.model.proofs.Placed.{part_at_below}

-- no parts, and the value is +0
pub none_value : (l : List Part) {count : ℕ} (x y z : Float) → count ≡ 0 → model_value (parts_of l count) count x y z ≡ plus_zero
unfolding model_value values_to
none_value l x y z e = rw e refl

module _ (l : List Part) (count : ℕ) (x y z : Float) where
  -- the first p values
  abbrev pub values_below : ℕ → List Float
  values_below p = values_to (parts_of l count) x y z p

  pub part_of_lem : (p : ℕ) → p < count → part_of (parts_of l count) p ≡ part_at l p
  part_of_lem p h = get_d_tabulate count (part_at l) p (Constant plus_zero) h

  -- one value more
  pub value_more : (p : ℕ) → p < count → values_below (suc p) ≡ values_below p ++ (part_value (part_at l p) x y z (values_below p) ∷ [])
  unfolding values_to
  value_more p h =
      ap (λ (q : Part). values_below p ++ (part_value q x y z (values_below p) ∷ [])) (part_of_lem p h)

  -- a list whose front holds the first p values
  module _ (entry : List Float) where
    abbrev pub written : ℕ → List Float
    written p = values_below p ++ drop p entry

    pub length_written : (p : ℕ) → p ≤ length entry → length (written p) ≡ length entry
    length_written p h =
        length-append (values_below p) (drop p entry)
        ∙ omega (arith, length_values_to (parts_of l count) x y z p, length-drop p entry)

    -- the next part reads the same from the list as from the values
    same_part : (p : ℕ) → part_value (part_at l p) x y z (written p) ≡ part_value (part_at l p) x y z (values_below p)
    same_part p =
        reads_below (part_at l p) x y z (written p) (values_below p) p (part_at_below l p)
        (λ q h. get_or-append (values_below p) (drop p entry) past q (omega (arith, length_values_to (parts_of l count) x y z p)))

    pub written_more : (p : ℕ) {v : Float} {now : List Float} → p < count → p < length entry → now ≡ written p
        → v ≡ part_value (part_at l p) x y z now → set now p v ≡ written (p + 1)
    written_more p {v} {now} below long e value =
        let front = length_values_to (parts_of l count) x y z p in
        let given : v ≡ part_value (part_at l p) x y z (values_below p) =
        value ∙ ap (part_value (part_at l p) x y z) e ∙ same_part p in
        ap (λ (t : List Float). set t p v) e
        ∙ front_set (values_below p) entry p v front long
        ∙ ap (λ (u : Float). values_below p ++ (u ∷ []) ++ drop (suc p) entry) given
        ∙ ap (λ (t : List Float). t ++ drop (suc p) entry) (sym (value_more p below))
        ∙ ap written (sym (add-one p))

    -- the model's value is the last one written
    pub last_written : 0 < count → get_or (written count) (count - 1) past ≡ model_value (parts_of l count) count x y z
    unfolding model_value
    last_written some =
        let within : count - 1 < length (values_below count) = omega (arith, length_values_to (parts_of l count) x y z count) in
        get_or-append (values_below count) (drop count entry) past (count - 1) within
        ∙ get_or_default (values_below count) (count - 1) past plus_zero within
