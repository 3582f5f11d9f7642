-- Where a line ends, by the first byte 10 from a place on.
use Rattle.std.proofs.Common.{◌≡◌, ℕ, ◌+◌, ◌-◌, ◌<◌, ◌≤◌, Bool, true, false, Some, None, List, length, get_or, drop, eqb, ltb, refl, sym, arith, length-drop, eq-eqb, eqb-true, ltb-false, ◌∙◌}
use Rattle.std.proofs.lemmas.Bool.{false≢true}
use Rattle.std.specs.Prelude.{position}
use Rattle.std.specs.List.{position_or_len}
use Rattle.std.proofs.lemmas.List.{get_or-drop}
use Rattle.std.proofs.lemmas.List.Sums.{fails_before_first}
use Rattle.std.proofs.lemmas.List.Quantifiers.{position-Some}
use Rattle.vectors.specs.Line.{LineEnd}

abbrev pub is_end : ℕ → Bool
is_end b = eqb b 10

other : (b : ℕ) → is_end b ≡ false → b ≡ 10 → ⊥
other b differs is = let yes : is_end b ≡ true = eq-eqb b 10 is in false≢true (sym differs ∙ yes)

none_ends : (xs : List ℕ) → position is_end xs ≡ None → (k : ℕ) → k < length xs → is_end (get_or xs k 0) ≡ false
none_ends xs none k below = by (ltb (position_or_len is_end xs) (length xs)) refl
  where
    by : (t : Bool) → ltb (position_or_len is_end xs) (length xs) ≡ t → is_end (get_or xs k 0) ≡ false
    by true e = let some = rw e at none in cc
    by false e = fails_before_first is_end xs k 0 (omega (arith, ltb-false (position_or_len is_end xs) (length xs) e))

module _ (s : List ℕ) (at : ℕ) (below : at < length s) where
  here : (k : ℕ) → at ≤ k → get_or (drop at s) (k - at) 0 ≡ get_or s k 0
  here k after = let same : at + (k - at) ≡ k = omega arith in rw (get_or-drop at s (k - at) 0, same)

  pub ends_at : (i : ℕ) → position is_end (drop at s) ≡ Some i → LineEnd s at (at + i + 1)
  ends_at i found =
      let first = position-Some is_end (drop at s) i 0 found in
      let long = length-drop at s in
      let last : at + i + 1 - 1 ≡ at + i = omega arith in
      record {
        after = omega arith;
        within = omega (arith, first.0);
        before = λ k small after. other (get_or s k 0) (rw (← here k after) (first.2 (k - at) (omega arith)));
        ended = λ more. rw (last, ← get_or-drop at s i 0) (eqb-true (get_or (drop at s) i 0) 10 first.1);
      }

  pub ends_last : position is_end (drop at s) ≡ None → LineEnd s at (length s)
  ends_last none =
      let long = length-drop at s in
      record {
        after = below;
        within = omega arith;
        before = λ k small after. other (get_or s k 0) (rw (← here k after) (none_ends (drop at s) none (k - at) (omega arith)));
        ended = λ more. absurd (omega arith);
      }
