-- The rows of all parts, filled one after the other, are the parts' values at each point.
use mathlib.Core.Path.{◌≡◌, refl, sym, ap, ◌∙◌}
use mathlib.Core.Bool.{Bool, true, false, cond, ◌&&◌}
use mathlib.Core.List.{List, [], ◌∷◌, ◌++◌}
use Prim.Native.Nat.{ℕ, zero, suc, ◌+◌, ◌*◌, ◌-◌, ◌/◌, ◌%◌, ◌≤◌, ◌<◌}
use native.Mathlib.Nat.{not-suc-le-zero, mul-le-mul_right}
use native.Mathlib.Numerals.{add-one}
use native.Mathlib.Omega.{arith}
use lib.Dec.{ltb}
use lib.ListN.{length, get_or, take, drop}
use lib.Seq.{ext_get_or, get_or-take}
use lib.Ieee.{Float}
use borrow.Author.Tests.{ltb-true, ltb-false}
use Rattle.lists.specs.Filled.{filled}
use Rattle.lists.specs.Tabulate.{tabulate}
use Rattle.std.proofs.lemmas.List.{get_or_default}
use Rattle.lists.proofs.Tables.{length_tabulate, get_d_tabulate, tabulate_cong, get_or_before, get_or_last}
use Rattle.lists.proofs.Filling.{filled_same}
use Rattle.float.specs.Zero.{plus_zero}
use Rattle.model.specs.Part.{past, part_value, placed}
use Rattle.model.specs.Model.{values_to, model_value, part_of, part_at, parts_of}
use Rattle.geometry.specs.declared.PointRow.{PointRow}
use Rattle.geometry.specs.PointRow.{point_in}
use Rattle.model.specs.declared.Part.{Part}
use Rattle.model.specs.Row.{values_at, evaluated_rows, model_row}
use Rattle.model.specs.Inner.Lanes.{lane_at, filled_row, lane}
use Rattle.model.proofs.Values.{length_values_to, reads_below}
use Rattle.model.proofs.Placed.{part_at_below}
use Rattle.model.proofs.PartValues.{value_more, none_value}
use Rattle.model.proofs.Rows.{length_filled, filled_below, filled_past, filled_at, row_back}

module _ (l : List Part) (n : ℕ) (points : PointRow) (values : List Float) where
  abbrev x : ℕ → Float
  x k = (point_in points k).x

  abbrev y : ℕ → Float
  y k = (point_in points k).y

  abbrev z : ℕ → Float
  z k = (point_in points k).z

  -- a part's value at lane k, from the rows before row p
  abbrev value_from : Part → List Float → (p k : ℕ) → Float
  value_from part now p k = part_value part (x k) (y k) (z k) (lane now k p)

  -- that of part p itself
  abbrev lane_value : List Float → (p k : ℕ) → Float
  lane_value now p k = value_from (part_at l p) now p k

  -- the first p rows filled
  unfoldable pub rows_to : ℕ → List Float
  rows_to zero = values
  rows_to (suc p) = filled_row (rows_to p) p n (lane_value (rows_to p) p)

  rows_more : (p : ℕ) {now last : List Float} → now ≡ rows_to p → last ≡ filled_row now p n (lane_value now p) → last ≡ rows_to (p + 1)
  unfolding rows_to
  rows_more p e row = rw (add-one p) (row ∙ ap (λ (t : List Float). filled_row t p n (lane_value t p)) e)

  -- one row more, which was lent behind the rows before it: its lanes hold the part's values from those rows
  pub rows_turn : (p : ℕ) (part : Part) (now : List Float) {earlier rest row : List Float} {count : ℕ} → n ≤ 64 → lane_at p n ≤ length now → now ≡ rows_to p
      → part ≡ part_of l p → earlier ≡ take (p * 64) now → rest ≡ drop (p * 64) now
      → row ≡ tabulate count (value_from (placed p part) earlier p) → count ≡ n
      → earlier ++ (row ++ drop n rest) ≡ rows_to (p + 1)
  unfolding part_at
  rows_turn p part now {earlier} lanes long e is first second row many =
      let before : (k : ℕ) → k < n → lane earlier k p ≡ lane now k p =
      λ k h. tabulate_cong p _ _
      (λ q below.
      ap (λ (t : List Float). get_or t (lane_at q k) past) first
      ∙ get_or-take (p * 64) now (lane_at q k) past (omega (arith, mul-le-mul_right 64 below))) in
      rows_more p e
      (row_back now p n long (lane_value now p) first second
      (row ∙ ap (λ (m : ℕ). tabulate m (value_from (placed p part) earlier p)) many
      ∙ tabulate_cong n _ _ (λ k h i. part_value (placed p (is i)) (x k) (y k) (z k) (before k h i))))

  length_rows : (p : ℕ) → length (rows_to p) ≡ length values
  unfolding rows_to
  length_rows zero = refl
  length_rows (suc p) = length_filled (rows_to p) p n (lane_value (rows_to p) p) ∙ length_rows p

  module _ (lanes : n ≤ 64) where
    -- rows that are not reached yet
    rows_later : (p j : ℕ) → p * 64 ≤ j → get_or (rows_to p) j past ≡ get_or values j past
    unfolding rows_to
    rows_later zero j h = refl
    rows_later (suc p) j h =
        let below : p * 64 + 64 ≤ j = omega arith in
        filled_past (rows_to p) p n (lane_value (rows_to p) p) j (omega arith) ∙ rows_later p j (omega arith)

    -- lanes that have no point
    rows_idle : (p j : ℕ) → n ≤ j % 64 → get_or (rows_to p) j past ≡ get_or values j past
    unfolding rows_to
    rows_idle zero j h = refl
    rows_idle (suc p) j h = one (ltb j (p * 64)) refl ∙ rows_idle p j h
      where
        one : (b : Bool) → ltb j (p * 64) ≡ b → get_or (filled_row (rows_to p) p n (lane_value (rows_to p) p)) j past ≡ get_or (rows_to p) j past
        one true e = filled_below (rows_to p) p n (lane_value (rows_to p) p) j (ltb-true j (p * 64) e)
        one false e =
            let low : p * 64 ≤ j = ltb-false j (p * 64) e in
            filled_past (rows_to p) p n (lane_value (rows_to p) p) j (omega arith)

    module _ (count : ℕ) where
      abbrev below : (k p : ℕ) → List Float
      below k p = values_to (parts_of l count) (x k) (y k) (z k) p

      below_long : (k p : ℕ) → length (below k p) ≡ p
      below_long k p = length_values_to (parts_of l count) (x k) (y k) (z k) p

      -- each lane of the first p rows holds its point's value
      rows_at : (p : ℕ) → p ≤ count → (q k : ℕ) → q < p → k < n → lane_at q k < length values
          → get_or (rows_to p) (lane_at q k) past ≡ get_or (below k p) q past
      unfolding rows_to
      rows_at zero most q k h hk long = absurd (not-suc-le-zero h)
      rows_at (suc p) most q k h hk long =
          one (ltb q p) refl (rows_at p (omega arith))
          ∙ ap (λ (t : List Float). get_or t q past) (sym (value_more l count (x k) (y k) (z k) p most))
        where
          one : (b : Bool) → ltb q p ≡ b
              → ((q k : ℕ) → q < p → k < n → lane_at q k < length values → get_or (rows_to p) (lane_at q k) past ≡ get_or (below k p) q past)
              → get_or (filled_row (rows_to p) p n (lane_value (rows_to p) p)) (lane_at q k) past
              ≡ get_or (below k p ++ (part_value (part_at l p) (x k) (y k) (z k) (below k p) ∷ [])) q past
          one true e earlier =
              let before : q < p = ltb-true q p e in
              filled_below (rows_to p) p n (lane_value (rows_to p) p) (lane_at q k) (omega (arith, mul-le-mul_right 64 before))
              ∙ earlier q k before hk long
              ∙ sym (get_or_before (below k p) _ q past (omega (arith, below_long k p)))
          one false e earlier =
              let last : q ≡ p = omega (arith, ltb-false q p e) in
              let within : lane_at p k < length values = omega arith in
              ap (λ (i : ℕ). get_or (filled_row (rows_to p) p n (lane_value (rows_to p) p)) (lane_at i k) past) last
              ∙ filled_at (rows_to p) p n (lane_value (rows_to p) p) k hk (omega (arith, length_rows p))
              ∙ reads_below (part_at l p) (x k) (y k) (z k) (lane (rows_to p) k p) (below k p) p (part_at_below l p)
              (λ i hi. get_d_tabulate p (λ r. get_or (rows_to p) (lane_at r k) past) i past hi ∙ earlier i k hi hk (omega (arith, mul-le-mul_right 64 hi)))
              ∙ sym (get_or_last (below k p) _ q past (below_long k p ∙ sym last))

      pub all_rows : rows_to count ≡ evaluated_rows l count n points values
      unfolding evaluated_rows
      all_rows =
          ext_get_or past (rows_to count) (evaluated_rows l count n points values)
          (length_rows count ∙ sym (length_tabulate (length values) _))
          (λ j h. one j (omega (arith, length_rows count)) (ltb (j / 64) count) refl (ltb (j % 64) n) refl
          ∙ sym (get_d_tabulate (length values) _ j past (omega (arith, length_rows count))))
        where
          one : (j : ℕ) → j < length values → (b : Bool) → ltb (j / 64) count ≡ b → (b' : Bool) → ltb (j % 64) n ≡ b'
              → get_or (rows_to count) j past
              ≡ cond (ltb (j / 64) count && ltb (j % 64) n) (get_or (values_at l count points (j % 64)) (j / 64) past) (get_or values j past)
          one j h true e true e' =
              let place : j ≡ lane_at (j / 64) (j % 64) = omega arith in
              rw (e, e')
              (ap (λ (i : ℕ). get_or (rows_to count) i past) place
              ∙ rows_at count (omega arith) (j / 64) (j % 64) (ltb-true _ _ e) (ltb-true _ _ e') (omega arith))
          one j h true e false e' = rw (e, e') (rows_idle count j (ltb-false _ _ e'))
          one j h false e b' e' =
              let late : count ≤ j / 64 = ltb-false _ _ e in
              rw e (rows_later count j (omega arith))

      -- the last row holds the model's value at each point
      pub last_row : (k : ℕ) → 0 < count → k < n → lane_at (count - 1) k < length values
          → get_or (evaluated_rows l count n points values) (lane_at (count - 1) k) past
          ≡ model_value (parts_of l count) count (x k) (y k) (z k)
      unfolding model_value
      last_row k some hk long =
          ap (λ (t : List Float). get_or t (lane_at (count - 1) k) past) (sym all_rows)
          ∙ rows_at count (omega arith) (count - 1) k (omega arith) hk long
          ∙ get_or_default (below k count) (count - 1) past plus_zero (omega (arith, below_long k count))

-- the row of the model's values, from the last of the rows, or from +0 where there is no part
module _ (l : List Part) (count n : ℕ) (points : PointRow) (values results : List Float) where
  length_evaluated : length (evaluated_rows l count n points values) ≡ length values
  unfolding evaluated_rows
  length_evaluated = length_tabulate (length values) _

  pub row_of_last : {now last row : List Float} → n ≤ 64 → 0 < count → now ≡ evaluated_rows l count n points values
      → lane_at (count - 1) n ≤ length now → row ≡ tabulate n (λ k. get_or now (lane_at (count - 1) k) past)
      → last ≡ filled 0 n (λ k. get_or row k past) results → last ≡ model_row l count n points results
  unfolding model_row
  row_of_last {now} {last} lanes some e long read row =
      let same : length now ≡ length values = ap length e ∙ length_evaluated in
      row
      ∙ filled_same 0 n _ _ results
      (λ k from below.
      let h : k < n = omega arith in
      ap (λ (t : List Float). get_or t k past) read
      ∙ get_d_tabulate n _ k past h
      ∙ ap (λ (t : List Float). get_or t (lane_at (count - 1) k) past) e
      ∙ last_row l n points values lanes count k some h (omega arith))

  pub row_of_none : {last : List Float} → count ≡ 0 → last ≡ filled 0 n (λ k. plus_zero) results → last ≡ model_row l count n points results
  unfolding model_row
  row_of_none e row =
      row
      ∙ filled_same 0 n _ _ results
      (λ k from below. sym (none_value l (point_in points k).x (point_in points k).y (point_in points k).z e))
