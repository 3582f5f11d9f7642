-- A stretch of a list that is lent, filled in part, and put back; and the front of a list, set to what the rest is.
use Prim.Native.Nat.{ℕ, zero, suc, ◌+◌, ◌-◌, ◌≤◌}
use mathlib.Core.Path.{◌≡◌, refl, sym, ap, ap₂, ◌∙◌}
use mathlib.Core.List.{List, [], ◌∷◌, ◌++◌}
use native.Mathlib.Nat.{zero-add, suc-add}
use native.Mathlib.Omega.{arith}
use lib.ListN.{length, get_or, take, drop, set, replicate, length-drop, replicate-append-replicate}
use lib.Seq.{set-append_left, length-take-le, get_or-drop}
use borrow.Rule.Slice.PartMut.{put_mid, mid_of, post_of, put_same}
use Rattle.lists.specs.Filled.{filled}
use Rattle.lists.proofs.Filling.{filled_length}

module _ {A : Type 0} where
  set_append_right : (xs ys : List A) (j : ℕ) (v : A) → set (xs ++ ys) (length xs + j) v ≡ xs ++ set ys j v
  set_append_right [] ys j v = rw zero-add
  set_append_right (x ∷ xs) ys j v = rw suc-add (ap (λ l. x ∷ l) (set_append_right xs ys j v))

  -- what is filled in the k elements from a on is filled in the whole
  put_filled : (a k p r : ℕ) (g : ℕ → A) (xs : List A) → a + k ≤ length xs → p + r ≤ k
      → put_mid a k xs (filled p r g (mid_of a k xs)) ≡ filled (a + p) r (λ q. g (q - a)) xs
  unfolding filled
  put_filled a k p zero g xs long within = put_same a k xs
  put_filled a k p (suc r) g xs long within =
      let front : length (take a xs) ≡ a = length-take-le a xs (omega arith) in
      let mid : length (mid_of a k xs) ≡ k = length-take-le k (drop a xs) (omega (arith, length-drop a xs)) in
      let lower : List A = filled p r g (mid_of a k xs) in
      let lower_long : length lower ≡ k = filled_length p r g (mid_of a k xs) ∙ mid in
      let place : length (take a xs) + (p + r) ≡ a + p + r = omega (arith, front) in
      let back : a + p + r - a ≡ p + r = omega arith in
      ap (λ l. take a xs ++ l) (sym (set-append_left lower (post_of a k xs) (p + r) (g (p + r)) (omega (arith, lower_long))))
      ∙ sym (set_append_right (take a xs) (lower ++ post_of a k xs) (p + r) (g (p + r)))
      ∙ ap (λ q. set (put_mid a k xs lower) q (g (p + r))) place
      ∙ ap (λ q. set (put_mid a k xs lower) (a + p + r) (g q)) (sym back)
      ∙ ap (λ l. set l (a + p + r) (g (a + p + r - a))) (put_filled a k p r g xs long (omega arith))

  pub stretch_filled : (a k p r : ℕ) (g : ℕ → A) (xs : List A) {ys : List A} → a + k ≤ length xs → p + r ≤ k → ys ≡ filled p r g (mid_of a k xs)
      → put_mid a k xs ys ≡ filled (a + p) r (λ q. g (q - a)) xs
  stretch_filled a k p r g xs long within same = ap (put_mid a k xs) same ∙ put_filled a k p r g xs long within

  -- a list that reads as one value everywhere
  all_one : (v : A) (xs : List A) → ((i : ℕ) → get_or xs i v ≡ v) → xs ≡ replicate (length xs) v
  all_one v [] same = refl
  all_one v (x ∷ xs) same = ap₂ ◌∷◌ (same 0) (all_one v xs (λ i. same (suc i)))

  -- a list that reads as one value from a place on is set to it up to there
  pub put_cleared : (used : ℕ) (v : A) (xs : List A) {front : List A} → used ≤ length xs → ((i : ℕ) → used ≤ i → get_or xs i v ≡ v)
      → front ≡ replicate (length (take used xs)) v → front ++ drop used xs ≡ replicate (length xs) v
  put_cleared used v xs {front} within same set =
      let back : drop used xs ≡ replicate (length (drop used xs)) v =
      all_one v (drop used xs) (λ i. get_or-drop used xs i v ∙ same (used + i) (omega arith)) in
      let whole : length (take used xs) + length (drop used xs) ≡ length xs = omega (arith, length-take-le used xs within, length-drop used xs) in
      ap₂ ◌++◌ set back
      ∙ replicate-append-replicate (length (take used xs)) (length (drop used xs)) v
      ∙ ap (λ n. replicate n v) whole
