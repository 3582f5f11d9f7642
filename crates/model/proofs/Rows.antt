-- A row of values: as its lanes are filled one after the other, as it is read, and as it stands among all values.
use mathlib.Core.Path.{◌≡◌, refl, sym, ap, ◌∙◌}
use mathlib.Core.List.{List, ◌++◌}
use Prim.Native.Nat.{ℕ, ◌*◌, ◌-◌, ◌≤◌, ◌<◌}
use native.Mathlib.Omega.{arith}
use lib.ListN.{length, get_or, take, drop, replicate, length-drop, length-replicate, get_or-replicate}
use lib.Seq.{ext_get_or, length-take-le, get_or-take, get_or-drop}
use lib.Ieee.{Float}
use Rattle.lists.specs.Filled.{filled}
use Rattle.lists.specs.Tabulate.{tabulate}
use Rattle.lists.proofs.Filling as lists
use Rattle.lists.proofs.LentPart.{lent_part}
use Rattle.lists.proofs.Tables.{length_tabulate, get_d_tabulate}
use Rattle.model.specs.Part.{past}
use Rattle.model.specs.Inner.Lanes.{lane_at, filled_row}

-- a row is whole when the loop over its lanes ends
pub row_done : (f : ℕ → Float) (row : List Float) {i : ℕ} {now : List Float} → now ≡ filled 0 i f row → i ≡ length row → now ≡ tabulate (length row) f
row_done f row e end = lists.filled_done 0 f row e end ∙ lists.filled_all (length row) f row past refl

-- the lane that is next is read as it was
pub own_lane : (i : ℕ) (f : ℕ → Float) (row : List Float) {now : List Float} → now ≡ filled 0 i f row → get_or now i past ≡ get_or row i past
own_lane i f row e = ap (λ (t : List Float). get_or t i past) e ∙ lists.get_or_unfilled 0 i f row i past (λ from. omega arith)

-- a row of one value
pub row_same : (v : Float) {n count : ℕ} → count ≡ n → replicate count v ≡ tabulate n (λ k. v)
row_same v {n} {count} e =
    let size = length-replicate count v in
    ext_get_or past (replicate count v) (tabulate n (λ k. v)) (size ∙ e ∙ sym (length_tabulate n _))
    (λ k h. get_or-replicate count k v past (omega (arith, size)) ∙ sym (get_d_tabulate n _ k past (omega (arith, size))))

-- the lanes of row p, as a part of all values
pub lanes_read : (values : List Float) (p n : ℕ) {count : ℕ} → count ≡ n → lane_at p n ≤ length values
    → take count (drop (p * 64) values) ≡ tabulate n (λ k. get_or values (lane_at p k) past)
lanes_read values p n e long =
    let rest : List Float = drop (p * 64) values in
    let size : length (take n rest) ≡ n = length-take-le n rest (omega (arith, length-drop (p * 64) values)) in
    ap (λ (m : ℕ). take m rest) e
    ∙ ext_get_or past (take n rest) (tabulate n (λ k. get_or values (lane_at p k) past)) (size ∙ sym (length_tabulate n _))
    (λ k h.
    let below : k < n = omega (arith, size) in
    get_or-take n rest k past below ∙ get_or-drop (p * 64) values k past ∙ sym (get_d_tabulate n _ k past below))

module _ (values : List Float) (p : ℕ) where
  -- the function of places that a function of lanes stands for
  abbrev placed : (ℕ → Float) → ℕ → Float
  placed f q = f (q - p * 64)

  pub length_filled : (n : ℕ) (f : ℕ → Float) → length (filled_row values p n f) ≡ length values
  unfolding filled_row
  length_filled n f = lists.filled_length (p * 64) n (placed f) values

  -- outside of the row's filled lanes all is as it was: below the row, and past those lanes
  unfilled : (n : ℕ) (f : ℕ → Float) (j : ℕ) → (p * 64 ≤ j → lane_at p n ≤ j) → get_or (filled_row values p n f) j past ≡ get_or values j past
  unfolding filled_row
  unfilled n f j apart = lists.get_or_unfilled (p * 64) n (placed f) values j past apart

  pub filled_below : (n : ℕ) (f : ℕ → Float) (j : ℕ) → j < p * 64 → get_or (filled_row values p n f) j past ≡ get_or values j past
  filled_below n f j h = unfilled n f j (λ from. omega arith)

  pub filled_past : (n : ℕ) (f : ℕ → Float) (j : ℕ) → lane_at p n ≤ j → get_or (filled_row values p n f) j past ≡ get_or values j past
  filled_past n f j h = unfilled n f j (λ from. h)

  -- a lane's own value
  at_lane : (f : ℕ → Float) (k : ℕ) → placed f (lane_at p k) ≡ f k
  at_lane f k = let lane : lane_at p k - p * 64 ≡ k = omega arith in ap f lane

  -- a filled lane
  pub filled_at : (n : ℕ) (f : ℕ → Float) (k : ℕ) → k < n → lane_at p k < length values → get_or (filled_row values p n f) (lane_at p k) past ≡ f k
  unfolding filled_row
  filled_at n f k h long =
      lists.get_or_filled (p * 64) n (placed f) values (lane_at p k) past (omega arith) (omega arith) long ∙ at_lane f k

-- ---- a row that is lent behind the rows before it, and comes back filled

module _ (values : List Float) (p n : ℕ) (long : lane_at p n ≤ length values) where
  pub row_back : (f : ℕ → Float) {earlier rest row : List Float} → earlier ≡ take (p * 64) values → rest ≡ drop (p * 64) values
      → row ≡ tabulate n f → earlier ++ (row ++ drop n rest) ≡ filled_row values p n f
  unfolding filled_row
  row_back f {earlier} {rest} {row} first second is =
      (λ i. first i ++ (is i ++ drop n (second i)))
      ∙ lent_part (p * 64) n (placed values p f) values (tabulate n f) past long (length_tabulate n f)
      (λ k h.
      let lane : k ≡ lane_at p k - p * 64 = omega arith in
      get_d_tabulate n f k past h ∙ ap f lane)
