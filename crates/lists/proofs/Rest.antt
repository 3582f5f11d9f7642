-- A slice whose elements from a place on, lent as a slice of their own, are all set to one value.
use mathlib.Core.Path.{◌≡◌, refl, ap, ◌∙◌}
use mathlib.Core.List.{List, [], ◌++◌, append-nil}
use Prim.Native.Nat.{ℕ, zero, suc, ◌+◌, ◌-◌, ◌≤◌}
use native.Mathlib.Omega.{arith}
use lib.ListN.{length, get_or, take, drop, replicate, length-append, length-drop, length-replicate, drop_of_length-le}
use lib.Seq.{length-take-le, take_all, take_at, get_or-append-add}
use borrow.Rule.Slice.PartMut.{put_mid}

-- a list of one value, also past its end
pub get_or_same : {A : Type 0} (n i : ℕ) (v : A) → get_or (replicate n v) i v ≡ v
get_or_same zero i v = refl
get_or_same (suc n) zero v = refl
get_or_same (suc n) (suc i) v = get_or_same n i v

-- as it was up to a place, and one value from there on
abbrev pub set_from : {A : Type 0} → ℕ → A → List A → List A
set_from at v l = take at l ++ replicate (length l - at) v

module _ {A : Type 0} (at : ℕ) (v : A) (l : List A) (within : at ≤ length l) where
  front_long : length (take at l) ≡ at
  front_long = length-take-le at l within

  pub rest_length : length (set_from at v l) ≡ length l
  rest_length =
      omega (arith, length-append (take at l) (replicate (length l - at) v), front_long, length-replicate (length l - at) v)

  pub rest_front : take at (set_from at v l) ≡ take at l
  rest_front = take_at (take at l) (replicate (length l - at) v) at front_long

  pub rest_same : (p : ℕ) → at ≤ p → get_or (set_from at v l) p v ≡ v
  rest_same p behind =
      let place : p ≡ length (take at l) + (p - at) = omega (arith, front_long) in
      ap (λ k. get_or (set_from at v l) k v) place
      ∙ get_or-append-add (take at l) (replicate (length l - at) v) (p - at) v
      ∙ get_or_same (length l - at) (p - at) v

  -- the part that was lent comes back
  pub rest_lent : {d : ℕ} {rest : List A} → d ≡ length l - at → rest ≡ replicate (length (take d (drop at l))) v
      → put_mid at d l rest ≡ set_from at v l
  rest_lent {d} {rest} size e =
      let long : length (drop at l) ≡ length l - at = length-drop at l in
      let many : length (drop at l) ≤ d = omega arith in
      let count : length (take d (drop at l)) ≡ length l - at = ap length (take_all d (drop at l) many) ∙ long in
      let none : drop d (drop at l) ≡ [] = drop_of_length-le (drop at l) {i = d} many in
      (λ t. take at l ++ ((e ∙ ap (λ k. replicate k v) count) t ++ none t))
      ∙ ap (λ k. take at l ++ k) (append-nil (replicate (length l - at) v))
