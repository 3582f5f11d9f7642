-- What is made of an octet's eight values, one after the other.
use Rattle.std.proofs.Common.{◌≡◌, ℕ, ◌+◌, ◌<◌, ◌≤◌, List, [], ◌∷◌, length, take, drop, get_or, sym, ap, ◌∙◌, add-one, arith, drop-cons}
use lib.ListN.{drop_of_length-le}
use lib.Seq.{take_all}
use lib.Ieee.{Float, binary64, add, div, of_bits}
use Rattle.float.specs.Zero.{plus_zero}
use Rattle.grid.specs.Pruning.{folded, from_first, average}
use Rattle.grid.proofs.Eight.{eight}
use Rattle.geometry.proofs.Literals.{eight_point}

-- a fold from the first value on, value by value
module _ (op : Float → Float → Float) where
  pub fold_begun : (l : List Float) (d : Float) → length l ≡ 8 → folded op (get_or l 0 d) (take 7 (drop 1 l)) ≡ from_first op l
  unfolding from_first
  fold_begun [] d e = absurd (omega arith)
  fold_begun (c ∷ rest) d e = ap (folded op c) (take_all 7 rest (omega arith))

  pub fold_next : (l : List Float) (i : ℕ) (d found : Float) → i < length l
      → folded op found (drop i l) ≡ folded op (op found (get_or l i d)) (drop (i + 1) l)
  unfolding folded
  fold_next l i d found within = ap (folded op found) (drop-cons l i d within) ∙ ap (λ (n : ℕ). folded op (op found (get_or l i d)) (drop n l)) (sym (add-one i))

  pub fold_done : (l : List Float) (i : ℕ) (found : Float) → length l ≤ i → folded op found (drop i l) ≡ found
  unfolding folded
  fold_done l i found past = ap (folded op found) (drop_of_length-le l {i = i} past)

-- the sum from 0 on, and an eighth of it
pub mean : (d : Float) (l : List Float) → length l ≡ 8
    → div binary64
    (add binary64 (add binary64 (add binary64 (add binary64 (add binary64 (add binary64 (add binary64 (add binary64 plus_zero (get_or l 0 d)) (get_or l 1 d)) (get_or l 2 d)) (get_or l 3 d)) (get_or l 4 d)) (get_or l 5 d)) (get_or l 6 d)) (get_or l 7 d))
    (of_bits binary64 0x4020_0000_0000_0000)
    ≡ average l
unfolding folded average
mean d l long = ap (div binary64 _) eight_point ∙ ap average (eight d l long)
