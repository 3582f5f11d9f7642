-- The list of a function's first n values: its length, its elements, and that only those values count.
use mathlib.Core.Path.{◌≡◌, refl, sym, ap, ◌∙◌}
use mathlib.Core.Bool.{Bool, true, false}
use mathlib.Core.List.{List, [], ◌∷◌, ◌++◌}
use Prim.Native.Nat.{ℕ, zero, suc, ◌<◌}
use native.Mathlib.Nat.{not-suc-le-zero}
use native.Mathlib.Numerals.{add-one}
use native.Mathlib.Omega.{arith}
use lib.Dec.{ltb}
use lib.ListN.{length, get_or, length-append, get_or-append}
use lib.Seq.{get_or_at}
use borrow.Author.Tests.{ltb-true, ltb-false}
use Rattle.lists.specs.Tabulate.{tabulate}

-- one more element behind a list
module _ {A : Type 0} (l : List A) (v : A) where
  pub length_more : length (l ++ (v ∷ [])) ≡ suc (length l)
  length_more = length-append l (v ∷ []) ∙ add-one (length l)

  -- an element before the last, and the last
  pub get_or_before : (i : ℕ) (d : A) → i < length l → get_or (l ++ (v ∷ [])) i d ≡ get_or l i d
  get_or_before i d h = get_or-append l (v ∷ []) d i h

  pub get_or_last : (n : ℕ) (d : A) → length l ≡ n → get_or (l ++ (v ∷ [])) n d ≡ v
  get_or_last n d e = get_or_at l v [] d n e

module _ {A : Type 0} where
  pub length_tabulate : (n : ℕ) (f : ℕ → A) → length (tabulate n f) ≡ n
  unfolding tabulate
  length_tabulate zero f = refl
  length_tabulate (suc n) f = length_more (tabulate n f) (f n) ∙ ap suc (length_tabulate n f)

  pub get_d_tabulate : (n : ℕ) (f : ℕ → A) (i : ℕ) (d : A) → i < n → get_or (tabulate n f) i d ≡ f i
  unfolding tabulate
  get_d_tabulate zero f i d h = absurd (not-suc-le-zero h)
  get_d_tabulate (suc n) f i d h = one (ltb i n) refl (λ earlier. get_d_tabulate n f i d earlier)
    where
      one : (b : Bool) → ltb i n ≡ b → (i < n → get_or (tabulate n f) i d ≡ f i) → get_or (tabulate n f ++ (f n ∷ [])) i d ≡ f i
      one true t before =
          let h : i < n = ltb-true i n t in
          get_or_before (tabulate n f) (f n) i d (omega (arith, length_tabulate n f)) ∙ before h
      one false t before =
          let last : i ≡ n = omega (arith, ltb-false i n t) in
          get_or_last (tabulate n f) (f n) i d (length_tabulate n f ∙ sym last) ∙ ap f (sym last)

  pub tabulate_cong : (n : ℕ) (f g : ℕ → A) → ((i : ℕ) → i < n → f i ≡ g i) → tabulate n f ≡ tabulate n g
  unfolding tabulate
  tabulate_cong zero f g same = refl
  tabulate_cong (suc n) f g same =
      let rest : tabulate n f ≡ tabulate n g = tabulate_cong n f g (λ i h. same i (omega arith)) in
      let last : f n ≡ g n = same n (omega arith) in
      λ i. rest i ++ (last i ∷ [])
