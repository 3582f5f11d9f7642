-- The row of a part at place p: lane k holds the part's value at point k, from lane k of the rows before it.
use Rattle.std.proofs.Common.{◌≡◌, ◌<◌, ℕ, true, false, ◌&&◌, List, get_or, Float, sym, ap, ◌∙◌}
use lib.Dec.{ltb}
use borrow.Author.Tests.{ltb-true}
use Rattle.lists.specs.Tabulate.{tabulate}
use Rattle.lists.proofs.Tables.{get_d_tabulate, tabulate_cong}
use Rattle.lists.proofs.Tests.{and_left, and_right}
use Rattle.float.specs.Zero.{plus_zero}
use Rattle.geometry.specs.declared.PointRow.{PointRow}
use Rattle.geometry.specs.PointRow.{point_in}
use Rattle.model.specs.Part.{past, part_value, inputs_below, placed}
use Rattle.model.specs.Inner.Lanes.{lane_at, lane}
use Rattle.model.specs.declared.Part.{Part}
use Rattle.model.proofs.Placed.{placed_same, placed_zero}

module _ (earlier : List Float) (p n : ℕ) (points : PointRow) where
  -- a part's value at lane k
  abbrev pub value_of : Part → ℕ → Float
  value_of part k = let at = point_in points k in part_value part at.x at.y at.z (lane earlier k p)

  abbrev pub row_of : Part → List Float
  row_of part = tabulate n (value_of (placed p part))

  module _ (part : Part) {last : List Float} where
    -- a part with an input that does not stand before it
    pub row_late : inputs_below p part ≡ false → last ≡ tabulate n (λ k. plus_zero) → last ≡ row_of part
    unfolding part_value
    row_late late row = row ∙ tabulate_cong n _ _ (λ k h. sym (ap (λ (q : Part). value_of q k) (placed_zero p part late)))

    -- any other, by what its value is
    pub row_is : (f : ℕ → Float) → inputs_below p part ≡ true → ((k : ℕ) → k < n → value_of part k ≡ f k) → last ≡ tabulate n f → last ≡ row_of part
    row_is f below is row =
        row ∙ tabulate_cong n _ _ (λ k h. sym (ap (λ (q : Part). value_of q k) (placed_same p part below) ∙ is k h))

  -- an input's value at a lane is read from its own row
  pub input : (q k : ℕ) {row : List Float} → ltb q p ≡ true → k < n → row ≡ tabulate n (λ k. get_or earlier (lane_at q k) past)
      → get_or (lane earlier k p) q past ≡ get_or row k past
  input q k before h is =
      get_d_tabulate p (λ i. get_or earlier (lane_at i k) past) q past (ltb-true q p before)
      ∙ sym (get_d_tabulate n (λ i. get_or earlier (lane_at q i) past) k past h)
      ∙ ap (λ (t : List Float). get_or t k past) (sym is)

  -- an operation on two inputs
  pub row_two : (part : Part) {last u v : List Float} (f : Float → Float → Float) (a b : ℕ) → inputs_below p part ≡ true
      → (ltb a p && ltb b p) ≡ true
      → ((k : ℕ) → value_of part k ≡ f (get_or (lane earlier k p) a past) (get_or (lane earlier k p) b past))
      → u ≡ tabulate n (λ k. get_or earlier (lane_at a k) past) → v ≡ tabulate n (λ k. get_or earlier (lane_at b k) past)
      → last ≡ tabulate n (λ k. f (get_or u k past) (get_or v k past)) → last ≡ row_of part
  row_two part f a b below both is first second row =
      row_is part _ below
      (λ k h. is k ∙ (λ i. f (input a k (and_left _ _ both) h first i) (input b k (and_right (ltb a p) _ both) h second i)))
      row
