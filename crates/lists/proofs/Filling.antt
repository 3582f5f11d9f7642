-- Stores in a row: how one stretch follows another, which elements they set, and what they leave of a whole list.
use mathlib.Core.Path.{◌≡◌, refl, sym, ap, ap₂, ◌∙◌}
use mathlib.Core.Bool.{Bool, true, false}
use mathlib.Core.List.{List, [], ◌∷◌, ◌++◌, append-nil, append_assoc}
use Prim.Native.Nat.{ℕ, zero, suc, ◌+◌, ◌≤◌, ◌<◌}
use native.Mathlib.Nat.{zero-add, add-zero}
use native.Mathlib.Numerals.{add-one}
use native.Mathlib.Omega.{arith}
use lib.Dec.{eqb, ltb}
use lib.ListN.{length, get_or, set, take, length-set}
use lib.Seq.{ext_get_or, get_or-set_same, get_or-set_other, set_comm, take-suc-set}
use borrow.Author.Tests.{eqb-true, eqb-false, ltb-true, ltb-false}
use Rattle.lists.specs.Tabulate.{tabulate}
use Rattle.lists.proofs.Tables.{length_tabulate, get_d_tabulate}
use Rattle.lists.specs.Filled.{filled}

module _ {A : Type 0} where
  pub filled_none : (at : ℕ) (g : ℕ → A) (l : List A) → filled at 0 g l ≡ l
  unfolding filled
  filled_none at g l = refl

  pub filled_length : (at count : ℕ) (g : ℕ → A) (l : List A) → length (filled at count g l) ≡ length l
  unfolding filled
  filled_length at zero g l = refl
  filled_length at (suc count) g l = length-set (filled at count g l) (at + count) _ ∙ filled_length at count g l

  -- one store more
  pub filled_next : (at count : ℕ) (g : ℕ → A) (l : List A) → set (filled at count g l) (at + count) (g (at + count)) ≡ filled at (count + 1) g l
  unfolding filled
  filled_next at count g l = ap (λ (n : ℕ). filled at n g l) (sym (add-one count))

  -- the same from a list that is already so far, and the last one
  pub filled_store_lem : (at count : ℕ) (g : ℕ → A) (l : List A) {x : List A} {v : A} → x ≡ filled at count g l → v ≡ g (at + count)
      → set x (at + count) v ≡ filled at (count + 1) g l
  filled_store_lem at count g l so_far value =
      ap₂ (λ (x : List A) (v : A). set x (at + count) v) so_far value ∙ filled_next at count g l

  -- at a list's front
  pub front_store : (count : ℕ) (g : ℕ → A) (l : List A) {x : List A} {v : A} → x ≡ filled 0 count g l → v ≡ g count
      → set x count v ≡ filled 0 (count + 1) g l
  front_store count g l {x} {v} so_far value =
      let here : count ≡ 0 + count = sym (zero-add count) in
      ap (λ (q : ℕ). set x q v) here ∙ filled_store_lem 0 count g l so_far (value ∙ ap g here)

  pub filled_done : (at : ℕ) {i count : ℕ} (g : ℕ → A) (l : List A) {x : List A} → x ≡ filled at i g l → i ≡ count → x ≡ filled at count g l
  filled_done at g l so_far last = so_far ∙ ap (λ (n : ℕ). filled at n g l) last

  -- a stretch right behind another
  pub filled_join : (at count more : ℕ) (g : ℕ → A) (l : List A)
      → filled (at + count) more g (filled at count g l) ≡ filled at (count + more) g l
  unfolding filled
  filled_join at count zero g l =
      let none : count ≡ count + 0 = omega arith in
      ap (λ (n : ℕ). filled at n g l) none
  filled_join at count (suc more) g l =
      let place : at + count + more ≡ at + (count + more) = omega arith in
      let next : suc (count + more) ≡ count + suc more = omega arith in
      ap₂ (λ (x : List A) (q : ℕ). set x q (g q)) (filled_join at count more g l) place
      ∙ ap (λ (n : ℕ). filled at n g l) next

  pub filled_more : (at count more : ℕ) {total : ℕ} (g : ℕ → A) (l : List A) {x y : List A} → x ≡ filled at count g l
      → y ≡ filled (at + count) more g x → count + more ≡ total → y ≡ filled at total g l
  filled_more at count more g l so_far next sum =
      next ∙ ap (filled (at + count) more g) so_far ∙ filled_join at count more g l ∙ ap (λ (n : ℕ). filled at n g l) sum

  -- only the values at the places of the stretch count
  pub filled_same : (at count : ℕ) (g h : ℕ → A) (l : List A) → ((q : ℕ) → at ≤ q → q < at + count → g q ≡ h q)
      → filled at count g l ≡ filled at count h l
  unfolding filled
  filled_same at zero g h l same = refl
  filled_same at (suc count) g h l same =
      ap₂ (λ (x : List A) (v : A). set x (at + count) v)
      (filled_same at count g h l (λ q from below. same q from (omega arith)))
      (same (at + count) (omega arith) (omega arith))

  -- an element of the stretch
  pub get_or_filled : (at count : ℕ) (g : ℕ → A) (l : List A) (q : ℕ) (d : A) → at ≤ q → q < at + count → q < length l
      → get_or (filled at count g l) q d ≡ g q
  unfolding filled
  get_or_filled at zero g l q d from below long = absurd (omega arith)
  get_or_filled at (suc count) g l q d from below long =
      one (eqb q (at + count)) refl (λ earlier. get_or_filled at count g l q d from earlier long)
    where
      one : (b : Bool) → eqb q (at + count) ≡ b → (q < at + count → get_or (filled at count g l) q d ≡ g q)
          → get_or (set (filled at count g l) (at + count) (g (at + count))) q d ≡ g q
      one true t before =
          let last : q ≡ at + count = eqb-true q (at + count) t in
          rw (← last) (get_or-set_same (filled at count g l) q (g q) d (omega (arith, filled_length at count g l)))
      one false t before =
          let other : q ≡ at + count → ⊥ = eqb-false q (at + count) t in
          let earlier : q < at + count = omega arith in
          get_or-set_other (filled at count g l) (at + count) q _ d other ∙ before earlier

  -- an element outside of it is as it was
  pub get_or_unfilled : (at count : ℕ) (g : ℕ → A) (l : List A) (q : ℕ) (d : A) → (at ≤ q → at + count ≤ q)
      → get_or (filled at count g l) q d ≡ get_or l q d
  unfolding filled
  get_or_unfilled at zero g l q d apart = refl
  get_or_unfilled at (suc count) g l q d apart =
      let other : q ≡ at + count → ⊥ = λ e. omega (arith, apart (omega arith)) in
      get_or-set_other (filled at count g l) (at + count) q _ d other
      ∙ get_or_unfilled at count g l q d (λ from. omega (arith, apart from))

  -- a store outside of it goes before it as well as after it
  pub set_filled : (at count : ℕ) (g : ℕ → A) (l : List A) (i : ℕ) (v : A) → (at ≤ i → at + count ≤ i)
      → set (filled at count g l) i v ≡ filled at count g (set l i v)
  unfolding filled
  set_filled at zero g l i v apart = refl
  set_filled at (suc count) g l i v apart =
      let other : at + count ≡ i → ⊥ = λ e. omega (arith, apart (omega arith)) in
      set_comm (filled at count g l) (at + count) i (g (at + count)) v other
      ∙ ap (λ (x : List A). set x (at + count) (g (at + count))) (set_filled at count g l i v (λ from. omega (arith, apart from)))

  -- the list up to the end of the stretch
  pub take_filled : (at count : ℕ) (g : ℕ → A) (l : List A) → at + count ≤ length l
      → take (at + count) (filled at count g l) ≡ take at l ++ tabulate count (λ k. g (at + k))
  unfolding filled tabulate
  take_filled at zero g l long = ap (λ (n : ℕ). take n l) (add-zero at) ∙ sym (append-nil (take at l))
  take_filled at (suc count) g l long =
      let next : at + suc count ≡ suc (at + count) = omega arith in
      let x = filled at count g l in
      ap (λ (n : ℕ). take n (set x (at + count) (g (at + count)))) next
      ∙ take-suc-set x (at + count) (g (at + count)) (omega (arith, filled_length at count g l))
      ∙ ap (λ (t : List A). t ++ (g (at + count) ∷ [])) (take_filled at count g l (omega arith))
      ∙ append_assoc (take at l) (tabulate count (λ k. g (at + k))) (g (at + count) ∷ [])

  -- a list is filled where its elements are
  pub filled_is : (at count : ℕ) (g : ℕ → A) (l t : List A) (d : A) → length t ≡ length l
      → ((q : ℕ) → at ≤ q → q < at + count → q < length l → get_or t q d ≡ g q)
      → ((q : ℕ) → (at ≤ q → at + count ≤ q) → get_or t q d ≡ get_or l q d)
      → t ≡ filled at count g l
  filled_is at count g l t d long inside apart =
      ext_get_or d t (filled at count g l) (long ∙ sym (filled_length at count g l))
      (λ q h. before q (omega arith) (ltb q at) refl)
    where
      behind : (q : ℕ) → q < length l → at ≤ q → (b : Bool) → ltb q (at + count) ≡ b → get_or t q d ≡ get_or (filled at count g l) q d
      behind q h from true t =
          let below : q < at + count = ltb-true q (at + count) t in
          inside q from below h ∙ sym (get_or_filled at count g l q d from below h)
      behind q h from false t =
          let past : at + count ≤ q = ltb-false q (at + count) t in
          apart q (λ f. past) ∙ sym (get_or_unfilled at count g l q d (λ f. past))

      before : (q : ℕ) → q < length l → (b : Bool) → ltb q at ≡ b → get_or t q d ≡ get_or (filled at count g l) q d
      before q h true t =
          let low : q < at = ltb-true q at t in
          apart q (λ f. omega arith) ∙ sym (get_or_unfilled at count g l q d (λ f. omega arith))
      before q h false t = behind q h (ltb-false q at t) (ltb q (at + count)) refl

  -- all of a list
  pub filled_all : (n : ℕ) (g : ℕ → A) (l : List A) (d : A) → length l ≡ n → filled 0 n g l ≡ tabulate n g
  filled_all n g l d long =
      ext_get_or d (filled 0 n g l) (tabulate n g)
      (filled_length 0 n g l ∙ long ∙ sym (length_tabulate n g))
      (λ i h.
      let below : i < n = omega (arith, filled_length 0 n g l) in
      get_or_filled 0 n g l i d (omega arith) (omega arith) (omega arith) ∙ sym (get_d_tabulate n g i d below))

  -- all of a list by its own elements of another list of its length
  pub filled_copy : (s l : List A) (d : A) → length l ≡ length s → filled 0 (length s) (λ q. get_or s q d) l ≡ s
  filled_copy s l d long =
      ext_get_or d (filled 0 (length s) (λ q. get_or s q d) l) s
      (filled_length 0 (length s) (λ q. get_or s q d) l ∙ long)
      (λ i h.
      let below : i < length s = omega (arith, filled_length 0 (length s) (λ q. get_or s q d) l) in
      get_or_filled 0 (length s) (λ q. get_or s q d) l i d (omega arith) (omega arith) (omega arith))
