-- Moving the marked places of a list to its front, one place after another.
use Rattle.std.proofs.Common.{◌≡◌, ℕ, ◌+◌, ◌<◌, ◌≤◌, true, false, List, [], ◌∷◌, ◌++◌, length, get_or, take, set, sym, refl, ap, ◌∙◌, add-one, arith, length-set, get_or-set_other, take-suc-set}
use Rattle.lists.specs.Sums.{sum_from}
use Rattle.lists.specs.Ranges.{count_below, list_below}
use Rattle.grid.specs.CornerList.{nonzero_at}
use Rattle.grid.proofs.MarkLaws.{is_nonzero, is_zero}
use Rattle.lists.proofs.Ranges.{list_below_more, list_below_skip, count_below_more, count_below_skip}

-- the places before `corner` have been read, and `count` of them moved
pub record Gathering (before : List ℕ) (corner count : ℕ) (list : List ℕ) : Type 0 where
  pub few : count ≤ corner
  pub kept : length list ≡ length before
  pub counted : count ≡ count_below corner (nonzero_at before)
  pub front : take count list ≡ list_below corner (nonzero_at before)
  pub ahead : (p : ℕ) → corner ≤ p → get_or list p 0 ≡ get_or before p 0

pub gathering_start : (before : List ℕ) → Gathering before 0 0 before
unfolding sum_from list_below
gathering_start before = record { few = omega arith; kept = refl; counted = refl; front = refl; ahead = λ p h. refl }

same : {before : List ℕ} {corner count count' : ℕ} {list list' : List ℕ} → list' ≡ list → count' ≡ count
    → Gathering before corner count list → Gathering before corner count' list'
same el ec g = rw (el, ec) g

module _ (before : List ℕ) (corner count : ℕ) (list : List ℕ) (g : Gathering before corner count list) where
  pub gathering_more : {count' : ℕ} {list' : List ℕ} → corner < length before → (get_or list corner 0 ≡ 0 → ⊥)
      → list' ≡ set list count corner → count' ≡ count + 1 → Gathering before (corner + 1) count' list'
  gathering_more long mark el ec =
      let passes : nonzero_at before corner ≡ true = is_nonzero before corner (λ e. mark (g.ahead corner (omega arith) ∙ e)) in
      let more = g.few in
      same el ec
      record {
        few = omega arith;
        kept = length-set list count corner ∙ g.kept;
        counted = rw (add-one corner, count_below_more (nonzero_at before) corner passes, ← g.counted) refl;
        front =
            rw (add-one corner, add-one count, take-suc-set list count corner (omega (arith, g.kept)), list_below_more (nonzero_at before) corner passes)
            (ap (λ (l : List ℕ). l ++ (corner ∷ [])) g.front);
        ahead = λ p h. get_or-set_other list count p corner 0 (λ e. omega arith) ∙ g.ahead p (omega arith);
      }

  pub gathering_skip : {count' : ℕ} {list' : List ℕ} → get_or list corner 0 ≡ 0
      → list' ≡ list → count' ≡ count → Gathering before (corner + 1) count' list'
  gathering_skip blank el ec =
      let fails : nonzero_at before corner ≡ false = is_zero before corner (sym (g.ahead corner (omega arith)) ∙ blank) in
      let more = g.few in
      same el ec
      record {
        few = omega arith;
        kept = g.kept;
        counted = rw (add-one corner, count_below_skip (nonzero_at before) corner fails) g.counted;
        front = rw (add-one corner, list_below_skip (nonzero_at before) corner fails) g.front;
        ahead = λ p h. g.ahead p (omega arith);
      }
