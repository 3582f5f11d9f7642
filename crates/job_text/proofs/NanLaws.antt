-- The bits of NaNs, part after part.
use mathlib.Core.Path.{◌≡◌, refl, sym, ap, ◌∙◌}
use Prim.Native.Nat.{ℕ, zero, suc, ◌+◌, ◌-◌, ◌≤◌, ◌<◌}
use native.Mathlib.Numerals.{add-one}
use native.Mathlib.Omega.{arith}
use mathlib.Core.List.{List, map}
use lib.ListN.{length, get_or, take, set, get_or-eq_default}
use lib.Seq.{get_or-take, length-take-le, take-suc-set}
use Rattle.std.proofs.lemmas.List.{take-map}
use Rattle.float.specs.Zero.{plus_zero}
use Rattle.std.proofs.lemmas.List.{get_or_default}
use Rattle.lists.proofs.Tables.{length_more, get_or_last}
use Rattle.model.specs.declared.ModelComponent.{ModelComponent}
use Rattle.model.specs.declared.Part.{Part}
use Rattle.model.specs.declared.Part.TheVariants.{Constant}
use Rattle.model.specs.Model.{part_of}
use Rattle.model.specs.Part.{part_in}
use Rattle.job_text.specs.NanBits.{computed_nan, nan_of, nans_to, nan_pattern}

module _ (parts : List Part) (patterns : List ℕ) where
  pub nans_length : (p : ℕ) → length (nans_to parts patterns p) ≡ p
  unfolding nans_to
  nans_length zero = refl
  nans_length (suc p) =
      length_more (nans_to parts patterns p) (nan_of (part_of parts p) (get_or patterns p 0) (nans_to parts patterns p)) ∙ ap suc (nans_length p)

  -- the model's is its last part's
  pub nan_last : (p : ℕ) → nan_pattern parts patterns (suc p) ≡ nan_of (part_of parts p) (get_or patterns p 0) (nans_to parts patterns p)
  unfolding nans_to nan_pattern
  nan_last p =
      let one : suc p - 1 ≡ p = omega arith in
      rw one (get_or_last (nans_to parts patterns p) (nan_of (part_of parts p) (get_or patterns p 0) (nans_to parts patterns p)) p computed_nan (nans_length p))

  pub nan_none : nan_pattern parts patterns 0 ≡ computed_nan
  unfolding nans_to nan_pattern
  nan_none = refl

  -- a part past the list is a constant without bits
  pub nan_past : (count : ℕ) → length parts < count → length patterns < count → nan_pattern parts patterns count ≡ 0
  unfolding nan_of
  nan_past zero past gone = absurd (omega arith)
  nan_past (suc p) past gone =
      let constant : part_of parts p ≡ Constant plus_zero = get_or-eq_default parts (Constant plus_zero) (omega arith) in
      let none : get_or patterns p 0 ≡ 0 = get_or-eq_default patterns 0 (omega arith) in
      nan_last p ∙ rw (constant, none)

  -- one part more
  pub nans_turn : (nans : List ℕ) (p v : ℕ) (q : Part) → p < length nans → take p nans ≡ nans_to parts patterns p
      → v ≡ nan_of q (get_or patterns p 0) (take p nans) → part_of parts p ≡ q → take (p + 1) (set nans p v) ≡ nans_to parts patterns (p + 1)
  unfolding nans_to
  nans_turn nans p v q room so is part = rw (add-one p, take-suc-set nans p v room, is, so, part)

  pub nans_done : (nans : List ℕ) (count : ℕ) → 0 < count → count ≤ length nans → take count nans ≡ nans_to parts patterns count
      → get_or nans (count - 1) 0 ≡ nan_pattern parts patterns count
  unfolding nan_pattern
  nans_done nans count some room so =
      get_or_default nans (count - 1) 0 computed_nan (omega arith)
      ∙ sym (get_or-take count nans (count - 1) computed_nan (omega arith))
      ∙ ap (λ (l : List ℕ). get_or l (count - 1) computed_nan) so

-- the parts from `count` on do not matter
pub nans_front : (parts : List Part) (patterns : List ℕ) (count p : ℕ) → p ≤ count → nans_to (take count parts) patterns p ≡ nans_to parts patterns p
unfolding nans_to
nans_front parts patterns count zero h = refl
nans_front parts patterns count (suc p) h =
    let earlier = nans_front parts patterns count p (omega arith) in
    let part : part_of (take count parts) p ≡ part_of parts p = get_or-take count parts p (Constant plus_zero) h in
    rw (earlier, part) refl

pub nan_front : (cs part : List ModelComponent) (patterns : List ℕ) (count : ℕ) → count ≤ length cs → part ≡ take count cs
    → nan_pattern (map part_in part) patterns (length part) ≡ nan_pattern (map part_in cs) patterns count
unfolding nan_pattern
nan_front cs part patterns count h is =
    let long : length part ≡ count = ap length is ∙ length-take-le count cs h in
    let front : map part_in part ≡ take count (map part_in cs) = ap (map part_in) is ∙ sym (take-map part_in count cs) in
    rw (long, front, nans_front (map part_in cs) patterns count count (omega arith)) refl
