-- What a read into the rest of a room leaves at its front.
use Rattle.std.proofs.Common.{◌≡◌, ℕ, ◌+◌, ◌≤◌, List, ◌++◌, Result, Ok, Err, arith, length, take, sym, ap, ◌∙◌, subst, le_refl, length-take-le}
use Rattle.std.proofs.lemmas.Slice.{take-put_mid_below}
use Rattle.std.specs.Prelude.{OnErr}
use Rattle.std.specs.Io.KnownBytes.{Consumes, Keeps}
use Rattle.std.proofs.KnownBytes.{Consumes-trans, Consumes-kept}
use Rattle.std.specs.declared.option.Option.{Option}
use borrow.Rule.Slice.PartMut.{put_mid, post_of}
use lib.Seq.{take-append-add, take-append-le}

module _ (xs ys : List ℕ) (at room : ℕ) (a b c : Option (List ℕ)) where
  abbrev after : List ℕ
  after = put_mid at room xs ys

  -- a read that failed
  pub front_kept :
      {T E : Type 0} (r : Result T E) → at ≤ length after → at ≤ length xs → Consumes a b (take at xs) → Keeps b c
      → OnErr r ((n : ℕ) × (n ≤ length after) × Consumes a c (take n after))
  front_kept (Ok x) most within before kept = tt
  front_kept (Err e) most within before kept =
      (at, most, subst (Consumes a c) (sym (take-put_mid_below at room xs ys at (le_refl at) within)) (Consumes-kept a b c _ before kept))

  -- the front, and then the first of what was read
  front_then : (n : ℕ) → at ≤ length xs → n ≤ length ys → take (at + n) after ≡ take at xs ++ take n ys
  front_then n within fits =
      ap (λ k. take (k + n) after) (sym (length-take-le at xs within))
      ∙ take-append-add (take at xs) (ys ++ post_of at room xs) n
      ∙ ap (λ l. take at xs ++ l) (take-append-le n ys (post_of at room xs) fits)

  -- a read that gave n bytes
  pub front_grown : (n : ℕ) → at ≤ length xs → n ≤ length ys → Consumes a b (take at xs) → Consumes b c (take n ys) → Consumes a c (take (at + n) after)
  front_grown n within fits before read = subst (Consumes a c) (sym (front_then n within fits)) (Consumes-trans a b c _ _ before read)

  -- a read that gave none
  pub front_ended : (n : ℕ) → n ≡ 0 → at ≤ length xs → n ≤ length ys → Consumes a b (take at xs) → Consumes b c (take n ys) → Consumes a c (take at after)
  front_ended n none within fits before read =
      let same : at + n ≡ at = omega arith in
      subst (λ k. Consumes a c (take k after)) same (front_grown n within fits before read)
