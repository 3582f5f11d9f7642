-- A model's value on bit patterns is its value, and where it is a NaN it has the model's bits.
use mathlib.Core.Path.{◌≡◌, refl, sym, ap, subst, ◌∙◌}
use Prim.Native.Nat.{ℕ, zero, suc, ◌-◌, ◌^◌, ◌<◌}
use native.Mathlib.Omega.{arith}
use mathlib.Core.Bool.{Bool, true, false, cond, ◌||◌}
use mathlib.Core.List.{List, [], ◌∷◌, ◌++◌, map, map-append}
use lib.Dec.{T}
use lib.ListN.{length, get_or, get_or-map}
use lib.Ieee.{Float, nan, inf, fin, binary64, of_bits, to_bits, fits, is_nan, lt}
use lib.Ieee.Bits.{of_bits-to_bits, to_bits-of_bits, of_bits-fits}
use lib.Ieee.Fits.{neg-fits, add-fits, sub-fits}
use Rattle.float.specs.Zero.{plus_zero}
use Rattle.float.specs.Select.{min_of, max_of}
use Rattle.geometry.specs.Distance.{distance_of}
use Rattle.std.proofs.lemmas.List.{get_or_default}
use Rattle.lists.proofs.Tables.{length_more}
use Rattle.model.specs.declared.Part.{Part}
use Rattle.model.specs.declared.Part.TheVariants.{Constant, Sphere, Plane, Min, Max, Add, Sub, Neg}
use Rattle.model.specs.Model.{part_of, values_to, model_value}
use Rattle.model.specs.Part.{past, part_value, sphere_value, plane_value}
use Rattle.job_text.specs.NanBits.{computed_nan, nan_of, nans_to, nan_pattern}
use Rattle.listing.specs.Values.{float_of, min_bits, max_bits, computed_bits, part_bits, bits_to, model_bits, OwnPattern, OwnPatterns}
use Rattle.listing.specs.Listing.{bits_in}
use Rattle.job_text.proofs.NanLaws.{nans_length}

-- ---- one part

computed_nan_lem : float_of computed_nan ≡ nan
unfolding of_bits
computed_nan_lem = refl

-- an earlier part's value, from its bits
earlier_value : (bits : List ℕ) (i : ℕ) → get_or (map float_of bits) i past ≡ float_of (get_or bits i computed_nan)
earlier_value bits i =
    subst (λ (d : Float). get_or (map float_of bits) i d ≡ float_of (get_or bits i computed_nan)) computed_nan_lem
    (get_or-map float_of bits i computed_nan)

chosen : (t u : Bool) (a b : ℕ) → float_of (cond t a (cond u b a)) ≡ cond t (float_of a) (cond u (float_of b) (float_of a))
chosen true u a b = refl
chosen false true a b = refl
chosen false false a b = refl

module _ (x y z : Float) (bits : List ℕ) where
  -- a computed value fits
  earlier_fits : (i : ℕ) → T (fits binary64 (get_or (map float_of bits) i past))
  earlier_fits i = subst (λ (v : Float). T (fits binary64 v)) (sym (earlier_value bits i)) (of_bits-fits binary64 (get_or bits i computed_nan))

  part_value_lem : (p : Part) (pattern : ℕ) → OwnPattern p pattern → float_of (part_bits p pattern x y z bits) ≡ part_value p x y z (map float_of bits)
  unfolding OwnPattern part_bits computed_bits part_value sphere_value plane_value min_bits max_bits min_of max_of
  part_value_lem (Constant w) pattern own = own.0
  part_value_lem (Sphere c r) pattern own = of_bits-to_bits binary64 _ (sub-fits binary64 (distance_of c x y z) r)
  part_value_lem (Plane n d) pattern own = of_bits-to_bits binary64 _ (sub-fits binary64 _ d)
  part_value_lem (Min a b) pattern own =
      let l = get_or bits a computed_nan in
      let r = get_or bits b computed_nan in
      rw (earlier_value bits a, earlier_value bits b) (chosen (is_nan (float_of r)) (is_nan (float_of l) || lt (float_of r) (float_of l)) l r)
  part_value_lem (Max a b) pattern own =
      let l = get_or bits a computed_nan in
      let r = get_or bits b computed_nan in
      rw (earlier_value bits a, earlier_value bits b) (chosen (is_nan (float_of r)) (is_nan (float_of l) || lt (float_of l) (float_of r)) l r)
  part_value_lem (Add a b) pattern own = of_bits-to_bits binary64 _ (add-fits binary64 (get_or (map float_of bits) a past) (get_or (map float_of bits) b past))
  part_value_lem (Sub a b) pattern own = of_bits-to_bits binary64 _ (sub-fits binary64 (get_or (map float_of bits) a past) (get_or (map float_of bits) b past))
  part_value_lem (Neg a) pattern own = of_bits-to_bits binary64 _ (neg-fits binary64 (get_or (map float_of bits) a past) (earlier_fits a))

-- ---- the parts in order

module _ (parts : List Part) (patterns : List ℕ) (x y z : Float) where
  bits_length : (p : ℕ) → length (bits_to parts patterns x y z p) ≡ p
  unfolding bits_to
  bits_length zero = refl
  bits_length (suc p) =
      length_more (bits_to parts patterns x y z p) (part_bits (part_of parts p) (get_or patterns p 0) x y z (bits_to parts patterns x y z p)) ∙ ap suc (bits_length p)

  -- the values of the first p parts are those of their bits
  pub values_are : (p : ℕ) → OwnPatterns parts patterns p → map float_of (bits_to parts patterns x y z p) ≡ values_to parts x y z p
  unfolding bits_to values_to OwnPatterns
  values_are zero own = refl
  values_are (suc p) own =
      let bits = bits_to parts patterns x y z p in
      let part = part_of parts p in
      let pattern = get_or patterns p 0 in
      map-append float_of bits (part_bits part pattern x y z bits ∷ [])
      ∙ ap (λ (v : Float). map float_of bits ++ (v ∷ [])) (part_value_lem x y z bits part pattern own.1)
      ∙ ap (λ (l : List Float). l ++ (part_value part x y z l ∷ [])) (values_are p own.0)

  -- MODEL'S BITS: their value is the model's value
  pub model_bits_value : (count : ℕ) → OwnPatterns parts patterns count → float_of (model_bits parts patterns count x y z) ≡ model_value parts count x y z
  unfolding model_bits model_value of_bits
  model_bits_value count own =
      let bits = bits_to parts patterns x y z count in
      sym (get_or-map float_of bits (count - 1) 0) ∙ ap (λ (l : List Float). get_or l (count - 1) plus_zero) (values_are count own)

-- ---- NaN bits

-- n is the pattern of b where b is a NaN's, and else b is its value's
abbrev SameBits : ℕ → ℕ → Type 0
SameBits n b = bits_in n (float_of b) ≡ b

-- a computed value
same_computed : (v : Float) → T (fits binary64 v) → SameBits computed_nan (to_bits binary64 v)
unfolding bits_in to_bits is_nan
same_computed v fit = rw (of_bits-to_bits binary64 v fit) (by v)
  where
    by : (v : Float) → cond (is_nan v) computed_nan (to_bits binary64 v) ≡ to_bits binary64 v
    by nan = refl
    by (inf s) = refl
    by (fin s m e) = refl

-- a constant's own pattern
same_constant : (b : ℕ) → b < 2 ^ 64 → SameBits b b
unfolding bits_in
same_constant b small = by (is_nan (float_of b)) refl
  where
    by : (t : Bool) → is_nan (float_of b) ≡ t → cond (is_nan (float_of b)) b (to_bits binary64 (float_of b)) ≡ b
    by true is = rw is
    by false is = rw is (to_bits-of_bits binary64 b small (rw is tt))

-- a value that is no NaN has its own bits
own_bits : (n m b : ℕ) → is_nan (float_of b) ≡ false → SameBits n b → SameBits m b
unfolding bits_in
own_bits n m b is same = rw is (rw is at same)

-- min and max give a NaN only where both operands are, and then the first
same_chosen : (n m a b : ℕ) (u : Bool) → SameBits n a → SameBits m b → SameBits n (cond (is_nan (float_of b)) a (cond u b a))
same_chosen n m a b u left right = by (is_nan (float_of b)) refl u
  where
    by : (t : Bool) → is_nan (float_of b) ≡ t → (u : Bool) → SameBits n (cond t a (cond u b a))
    by true is u = left
    by false is true = own_bits m n b is right
    by false is false = left

-- what holds of two lists' elements, with a computed NaN past their ends
abbrev AllSame : (nans bits : List ℕ) → Type 0
AllSame nans bits = (i : ℕ) → SameBits (get_or nans i computed_nan) (get_or bits i computed_nan)

module _ (x y z : Float) (nans bits : List ℕ) (same : AllSame nans bits) where
  part_same : (p : Part) (pattern : ℕ) → OwnPattern p pattern → SameBits (nan_of p pattern nans) (part_bits p pattern x y z bits)
  unfolding OwnPattern nan_of part_bits computed_bits part_value sphere_value plane_value min_bits max_bits
  part_same (Constant w) pattern own = same_constant pattern own.1
  part_same (Sphere c r) pattern own = same_computed _ (sub-fits binary64 (distance_of c x y z) r)
  part_same (Plane n d) pattern own = same_computed _ (sub-fits binary64 _ d)
  part_same (Min a b) pattern own =
      let l = float_of (get_or bits a computed_nan) in
      let r = float_of (get_or bits b computed_nan) in
      same_chosen _ _ _ _ (is_nan l || lt r l) (same a) (same b)
  part_same (Max a b) pattern own =
      let l = float_of (get_or bits a computed_nan) in
      let r = float_of (get_or bits b computed_nan) in
      same_chosen _ _ _ _ (is_nan l || lt l r) (same a) (same b)
  part_same (Add a b) pattern own = same_computed _ (add-fits binary64 (get_or (map float_of bits) a past) (get_or (map float_of bits) b past))
  part_same (Sub a b) pattern own = same_computed _ (sub-fits binary64 (get_or (map float_of bits) a past) (get_or (map float_of bits) b past))
  part_same (Neg a) pattern own = same_computed _ (neg-fits binary64 (get_or (map float_of bits) a past) (earlier_fits x y z bits a))

-- one element more
more_same : (nans bits : List ℕ) (n b : ℕ) → length nans ≡ length bits → AllSame nans bits → SameBits n b → AllSame (nans ++ (n ∷ [])) (bits ++ (b ∷ []))
more_same [] [] n b long same one zero = one
more_same [] [] n b long same one (suc i) = same (suc i)
more_same [] (c ∷ bits) n b long same one i = absurd (omega arith)
more_same (a ∷ nans) [] n b long same one i = absurd (omega arith)
more_same (a ∷ nans) (c ∷ bits) n b long same one zero = same zero
more_same (a ∷ nans) (c ∷ bits) n b long same one (suc i) = more_same nans bits n b (omega arith) (λ i. same (suc i)) one i

module _ (parts : List Part) (patterns : List ℕ) (x y z : Float) where
  all_same : (p : ℕ) → OwnPatterns parts patterns p → AllSame (nans_to parts patterns p) (bits_to parts patterns x y z p)
  unfolding nans_to bits_to OwnPatterns bits_in of_bits is_nan
  all_same zero own = λ i. refl
  all_same (suc p) own =
      let nans = nans_to parts patterns p in
      let bits = bits_to parts patterns x y z p in
      let same = all_same p own.0 in
      more_same nans bits _ _ (nans_length parts patterns p ∙ sym (bits_length parts patterns x y z p)) same
      (part_same x y z nans bits same (part_of parts p) (get_or patterns p 0) own.1)

  last_bits : (count : ℕ) → OwnPatterns parts patterns count → 0 < count
      → bits_in (nan_pattern parts patterns count) (model_value parts count x y z) ≡ model_bits parts patterns count x y z
  unfolding nan_pattern model_bits
  last_bits count own some =
      let bits = bits_to parts patterns x y z count in
      let is : model_bits parts patterns count x y z ≡ get_or bits (count - 1) computed_nan =
      get_or_default bits (count - 1) 0 computed_nan (omega (arith, bits_length parts patterns x y z count)) in
      ap (bits_in (nan_pattern parts patterns count)) (sym (model_bits_value parts patterns x y z count own) ∙ ap float_of is)
      ∙ all_same count own (count - 1)
      ∙ sym is

  -- NAN BITS: a model's value, printed with the model's NaN pattern, has the model's bits
  pub nan_bits_lem : (count : ℕ) → OwnPatterns parts patterns count
      → bits_in (nan_pattern parts patterns count) (model_value parts count x y z) ≡ model_bits parts patterns count x y z
  unfolding nan_pattern nans_to model_value values_to model_bits bits_to bits_in is_nan to_bits of_bits
  nan_bits_lem zero own = refl
  nan_bits_lem (suc p) own = last_bits (suc p) own (omega arith)
