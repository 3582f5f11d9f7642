-- A part of a list that is lent as a list of its own, and comes back with other elements: the list is filled there.
use Rattle.std.proofs.Common.{◌≡◌, ℕ, ◌+◌, ◌-◌, ◌≤◌, ◌<◌, Bool, true, false, List, ◌++◌, length, replicate, map, take, drop, get_or, refl, ap, ◌∙◌, arith, length-append, length-drop}
use lib.ListN.{length-map, length-replicate, get_or-append, get_or-replicate}
use lib.Seq.{length-take-le, get_or-take, get_or-drop, get_or-append-add}
use lib.Dec.{ltb}
use borrow.Author.Tests.{ltb-true, ltb-false}
use borrow.Rule.Slice.PartMut.{put_mid}
use Rattle.lists.specs.Filled.{filled}
use Rattle.std.proofs.lemmas.List.{get_or-map}
use Rattle.lists.proofs.Filling.{filled_is}

module _ {A : Type 0} (at count : ℕ) (g : ℕ → A) (l part : List A) (d : A) (within : at + count ≤ length l) (size : length part ≡ count)
    (same : (k : ℕ) → k < count → get_or part k d ≡ g (at + k)) where
  abbrev front : List A
  front = take at l

  abbrev rest : List A
  rest = drop count (drop at l)

  front_long : length front ≡ at
  front_long = length-take-le at l (omega arith)

  whole_long : length (put_mid at count l part) ≡ length l
  whole_long =
      length-append front (part ++ rest)
      ∙ omega (arith, front_long, size, length-append part rest, length-drop count (drop at l), length-drop at l)

  inside : (q : ℕ) → at ≤ q → q < at + count → q < length l → get_or (put_mid at count l part) q d ≡ g q
  inside q from below short =
      let place : q ≡ length front + (q - at) = omega (arith, front_long) in
      let back : at + (q - at) ≡ q = omega arith in
      ap (λ (j : ℕ). get_or (front ++ (part ++ rest)) j d) place
      ∙ get_or-append-add front (part ++ rest) (q - at) d
      ∙ get_or-append part rest d (q - at) (omega (arith, size))
      ∙ same (q - at) (omega arith)
      ∙ ap g back

  behind : (q : ℕ) → at + count ≤ q → get_or (put_mid at count l part) q d ≡ get_or l q d
  behind q h =
      let r : ℕ = q - (at + count) in
      let place : q ≡ length front + (length part + r) = omega (arith, front_long, size) in
      let back : at + (count + r) ≡ q = omega arith in
      ap (λ (i : ℕ). get_or (front ++ (part ++ rest)) i d) place
      ∙ get_or-append-add front (part ++ rest) (length part + r) d
      ∙ get_or-append-add part rest r d
      ∙ get_or-drop count (drop at l) r d
      ∙ get_or-drop at l (count + r) d
      ∙ ap (λ (i : ℕ). get_or l i d) back

  before : (q : ℕ) → q < at → get_or (put_mid at count l part) q d ≡ get_or l q d
  before q h = get_or-append front (part ++ rest) d q (omega (arith, front_long)) ∙ get_or-take at l q d h

  apart : (q : ℕ) → (at ≤ q → at + count ≤ q) → get_or (put_mid at count l part) q d ≡ get_or l q d
  apart q out = one (ltb q at) refl
    where
      one : (b : Bool) → ltb q at ≡ b → get_or (put_mid at count l part) q d ≡ get_or l q d
      one true t = before q (ltb-true q at t)
      one false t = behind q (out (ltb-false q at t))

  pub lent_part : put_mid at count l part ≡ filled at count g l
  lent_part = filled_is at count g l (put_mid at count l part) d whole_long inside apart

-- The part is lent from `at` to `end`, as a range of the code.
module _ {A : Type 0} (at count : ℕ) (l : List A) (d : A) (within : at + count ≤ length l) where
  -- set to one value
  pub lent_set : (v : A) (end : ℕ) {part : List A} → end ≡ at + count
      → part ≡ replicate (length (take (end - at) (drop at l))) v → put_mid at (end - at) l part ≡ filled at count (λ q. v) l
  lent_set v end {part} e is =
      let cut : end - at ≡ count = omega arith in
      let many : length (take (end - at) (drop at l)) ≡ count =
      length-take-le (end - at) (drop at l) (omega (arith, length-drop at l)) ∙ cut in
      let all : part ≡ replicate count v = is ∙ ap (λ (n : ℕ). replicate n v) many in
      let size : length part ≡ count = ap length all ∙ length-replicate count v in
      ap (λ (n : ℕ). put_mid at n l part) cut
      ∙ lent_part at count (λ q. v) l part d within size
      (λ k h. ap (λ (t : List A). get_or t k d) all ∙ get_or-replicate count k v d h)

  -- given another list's elements
  pub lent_copy : (g : ℕ → A) (end : ℕ) (other : List A) {part : List A} → end ≡ at + count → part ≡ other → length other ≡ count
      → ((k : ℕ) → k < count → get_or other k d ≡ g (at + k)) → put_mid at (end - at) l part ≡ filled at count g l
  lent_copy g end other {part} e is size same =
      let cut : end - at ≡ count = omega arith in
      ap (λ (n : ℕ). put_mid at n l part) cut
      ∙ lent_part at count g l part d within (ap length is ∙ size) (λ k h. ap (λ (t : List A). get_or t k d) is ∙ same k h)

-- The same at a list's front, as a range without a start lends it.
module _ {A : Type 0} (count : ℕ) (l : List A) (d : A) (within : count ≤ length l) where
  pub front_set : (v : A) {part : List A} → part ≡ replicate (length (take count l)) v → part ++ drop count l ≡ filled 0 count (λ q. v) l
  front_set v {part} is =
      let all : part ≡ replicate count v = is ∙ ap (λ (n : ℕ). replicate n v) (length-take-le count l within) in
      lent_part 0 count (λ q. v) l part d (omega arith) (ap length all ∙ length-replicate count v)
      (λ k h. ap (λ (t : List A). get_or t k d) all ∙ get_or-replicate count k v d h)

  pub front_copy : (g : ℕ → A) (other : List A) {part : List A} → part ≡ other → length other ≡ count
      → ((k : ℕ) → k < count → get_or other k d ≡ g k) → part ++ drop count l ≡ filled 0 count g l
  front_copy g other {part} is size same =
      lent_part 0 count g l part d (omega arith) (ap length is ∙ size)
      (λ k h. let here : k ≡ 0 + k = omega arith in ap (λ (t : List A). get_or t k d) is ∙ same k h ∙ ap g here)
