-- Values stored at listed places: one place after another, and the needed corners among them.
use mathlib.Core.Path.{◌≡◌, refl, ap, ap₂, ◌∙◌}
use mathlib.Core.Bool.{Bool, true, false, cond}
use mathlib.Core.List.{List, [], ◌∷◌, ◌++◌}
use Prim.Native.Nat.{ℕ, zero, suc, ◌+◌, ◌≤◌, ◌<◌}
use native.Mathlib.Nat.{not-suc-le-zero, le_of_suc-le-suc}
use native.Mathlib.Numerals.{add-one}
use native.Mathlib.Omega.{arith}
use lib.ListN.{length, get_or, take, set, length-set}
use lib.Seq.{take-suc, take_all}
use lib.Ieee.{Float}
use Rattle.model.specs.Part.{past}
use Rattle.rows.specs.Inner.CornerRun.{evaluated_from}
use Rattle.rows.specs.Inner.Gathered.{needed_list}
use Rattle.rows.specs.Inner.Written.{written, scattered}

-- ---- a row of values, stored one after another

module _ (places : List ℕ) (values l : List Float) where
  pub scattered_none : l ≡ scattered 0 places values l
  unfolding scattered
  scattered_none = refl

  pub scattered_next : (q : ℕ) {x : List Float} → x ≡ scattered q places values l
      → set x (get_or places q 0) (get_or values q past) ≡ scattered (q + 1) places values l
  unfolding scattered
  scattered_next q e = rw (add-one q, e) refl

  pub scattered_length : (q : ℕ) → length (scattered q places values l) ≡ length l
  unfolding scattered
  scattered_length zero = refl
  scattered_length (suc q) = length-set (scattered q places values l) _ _ ∙ scattered_length q

-- ---- the values of listed places

module _ (value : ℕ → Float) where
  -- one place more, at the end
  pub written_snoc : (places : List ℕ) (p : ℕ) (l : List Float) → written value (places ++ (p ∷ [])) l ≡ set (written value places l) p (value p)
  unfolding written
  written_snoc [] p l = refl
  written_snoc (q ∷ places) p l = written_snoc places p (set l q (value q))

  pub written_length : (places : List ℕ) (l : List Float) → length (written value places l) ≡ length l
  unfolding written
  written_length [] l = refl
  written_length (p ∷ places) l = written_length places (set l p (value p)) ∙ length-set l p (value p)

  -- a row that holds the values of the listed places
  module _ (places : List ℕ) (values l : List Float) (count : ℕ) (holds : (q : ℕ) → q < count → get_or values q past ≡ value (get_or places q 0)) where
    scattered_front : (q : ℕ) → q ≤ count → q ≤ length places → scattered q places values l ≡ written value (take q places) l
    unfolding scattered written
    scattered_front zero few long = refl
    scattered_front (suc q) few long =
        rw (take-suc places q 0 long, written_snoc)
        (ap₂ (λ x v. set x (get_or places q 0) v) (scattered_front q (omega arith) (omega arith)) (holds q few))

    pub scattered_all : length places ≡ count → scattered count places values l ≡ written value places l
    scattered_all whole =
        scattered_front count (omega arith) (omega arith) ∙ ap (λ p. written value p l) (take_all count places (omega arith))

  -- the needed corners, as they are listed
  pub evaluated_written : (test : ℕ → Bool) (r i : ℕ) (l : List Float) → evaluated_from test value r i l ≡ written value (needed_list test r i) l
  unfolding evaluated_from needed_list written
  evaluated_written test zero i l = refl
  evaluated_written test (suc r) i l = by (test i) (evaluated_written test r (suc i))
    where
      by : (b : Bool) → ((l : List Float) → evaluated_from test value r (suc i) l ≡ written value (needed_list test r (suc i)) l)
          → evaluated_from test value r (suc i) (cond b (set l i (value i)) l)
          ≡ written value (cond b (i ∷ needed_list test r (suc i)) (needed_list test r (suc i))) l
      by true rest = rest (set l i (value i))
      by false rest = rest l

  -- first r corners, then s more
  pub evaluated_add : (test : ℕ → Bool) (r s i : ℕ) (l : List Float)
      → evaluated_from test value (r + s) i l ≡ evaluated_from test value s (i + r) (evaluated_from test value r i l)
  unfolding evaluated_from
  evaluated_add test zero s i l =
      let here : i + 0 ≡ i = omega arith in
      let all : 0 + s ≡ s = omega arith in
      rw (here, all) refl
  evaluated_add test (suc r) s i l =
      let here : i + suc r ≡ suc i + r = omega arith in
      let all : suc r + s ≡ suc (r + s) = omega arith in
      rw (here, all) (evaluated_add test r s (suc i) (cond (test i) (set l i (value i)) l))

-- each listed corner lies within the stretch that was searched
pub listed_below : (test : ℕ → Bool) (r i q : ℕ) → q < length (needed_list test r i) → get_or (needed_list test r i) q 0 < i + r
unfolding needed_list
listed_below test zero i q h = absurd (not-suc-le-zero h)
listed_below test (suc r) i q h = by (test i) refl q h (listed_below test r (suc i))
  where
    by : (b : Bool) → test i ≡ b → (q : ℕ) → q < length (cond b (i ∷ needed_list test r (suc i)) (needed_list test r (suc i)))
        → ((q : ℕ) → q < length (needed_list test r (suc i)) → get_or (needed_list test r (suc i)) q 0 < suc i + r)
        → get_or (cond b (i ∷ needed_list test r (suc i)) (needed_list test r (suc i))) q 0 < i + suc r
    by true e zero h later = omega arith
    by true e (suc q) h later = omega (arith, later q (le_of_suc-le-suc h))
    by false e q h later = omega (arith, later q h)
