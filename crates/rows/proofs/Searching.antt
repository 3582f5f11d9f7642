-- A search for needed corners, one corner after another.
use mathlib.Core.Path.{◌≡◌, refl, sym, ap, ◌∙◌}
use mathlib.Core.Bool.{Bool, true, false, cond}
use mathlib.Core.List.{List, [], ◌∷◌, ◌++◌, append-nil}
use Prim.Native.Nat.{ℕ, zero, suc, ◌+◌, ◌-◌, ◌<◌}
use native.Mathlib.Nat.{add-zero}
use native.Mathlib.Numerals.{add-one}
use native.Mathlib.Omega.{arith}
use lib.ListN.{length, take, set}
use lib.Seq.{take-suc-set}
use Rattle.lists.specs.Sums.{sum_from, bit}
use Rattle.lists.proofs.Sums.{sum_from_snoc}
use Rattle.rows.specs.Inner.CornerRun.{needed_from}
use Rattle.rows.specs.Inner.Gathered.{needed_list, Gathering}

module _ (test : ℕ → Bool) where
  -- one corner more, at the end
  pub needed_list_snoc : (r i : ℕ) → needed_list test (suc r) i ≡ needed_list test r i ++ cond (test (i + r)) ((i + r) ∷ []) []
  unfolding needed_list
  needed_list_snoc zero i = rw (add-zero i) refl
  needed_list_snoc (suc r) i =
      let rest : needed_list test (suc r) (suc i) ≡ needed_list test r (suc i) ++ cond (test (suc i + r)) ((suc i + r) ∷ []) [] = needed_list_snoc r (suc i) in
      let place : suc i + r ≡ i + suc r = omega arith in
      by (test i) _ _ _ (rw place at rest)
    where
      by : (b : Bool) (l m k : List ℕ) → l ≡ m ++ k → cond b (i ∷ l) l ≡ cond b (i ∷ m) m ++ k
      by true l m k e = ap (λ t. i ∷ t) e
      by false l m k e = e

  -- nothing tested yet
  pub gathering_none : (i : ℕ) (list : List ℕ) → Gathering test i i 0 list
  unfolding needed_list sum_from
  gathering_none i list =
      let none : i - i ≡ 0 = omega arith in
      record { from = omega arith; counted = rw none refl; listed = rw none refl }

  module _ (i next count : ℕ) (list : List ℕ) (g : Gathering test i next count list) where
    -- one corner more, with its test
    counted_next : needed_from test (next + 1 - i) i ≡ count + bit (test next)
    counted_next =
        let from = g.from in
        let more : next + 1 - i ≡ suc (next - i) = omega arith in
        let here : i + (next - i) ≡ next = omega arith in
        rw more (sum_from_snoc (λ c. bit (test c)) (next - i) i ∙ rw (here, g.counted) refl)

    listed_next : needed_list test (next + 1 - i) i ≡ take count list ++ cond (test next) (next ∷ []) []
    listed_next =
        let from = g.from in
        let more : next + 1 - i ≡ suc (next - i) = omega arith in
        let here : i + (next - i) ≡ next = omega arith in
        rw more (needed_list_snoc (next - i) i ∙ rw (here, g.listed) refl)

    -- a needed corner is written behind those found
    pub gathering_more : {count' : ℕ} {list' : List ℕ} → test next ≡ true → count < length list
        → list' ≡ set list count next → count' ≡ count + 1 → Gathering test i (next + 1) count' list'
    gathering_more passes long el ec =
        let from = g.from in
        record {
          from = omega arith;
          counted = counted_next ∙ rw passes (sym ec);
          listed = rw (el, ec, add-one count, take-suc-set list count next long) (sym (listed_next ∙ rw passes refl));
        }

    -- another is passed over
    pub gathering_skip : {count' : ℕ} {list' : List ℕ} → test next ≡ false
        → list' ≡ list → count' ≡ count → Gathering test i (next + 1) count' list'
    gathering_skip fails el ec =
        let from = g.from in
        record {
          from = omega arith;
          counted = counted_next ∙ rw fails (omega arith);
          listed = rw (el, ec) (sym (listed_next ∙ rw fails (append-nil (take count list))));
        }
