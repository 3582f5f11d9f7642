-- The lines of a listing: their bytes and how many there are.
use Prim.Native.Nat.{ℕ, zero, suc, ◌+◌, ◌-◌, ◌*◌, ◌/◌, ◌≤◌, ◌<◌}
use mathlib.Core.Path.{◌≡◌, refl, sym, ap, ◌∙◌}
use mathlib.Core.Bool.{Bool, true, false, cond}
use mathlib.Core.List.{List, [], ◌∷◌, ◌++◌, map}
use native.Mathlib.Numerals.{add-one}
use native.Mathlib.Omega.{arith}
use borrow.Author.Tests.{eq-eqb, ne_eqb, leb-true}
use lib.Dec.{eqb, ltb}
use lib.ListN.{length, get_or, take, drop, length-append, length-drop}
use lib.Seq.{drop-cons, drop-length, ext_get_or, get_or-take, get_or-drop, length-take-le}
use lib.Ieee.{Float, binary64, to_bits}
use Rattle.float.specs.Zero.{plus_zero}
use Rattle.lists.specs.Tabulate.{tabulate}
use Rattle.lists.proofs.Tables.{length_tabulate, get_d_tabulate}
use Rattle.forms.specs.Digits.{decimal_count, hex_of, decimal_of}
use Rattle.forms.specs.Forms.{spell, spell_piece, piece_of, is_field, after}
use Rattle.forms.proofs.DigitLaws.{digits_length}
use Rattle.listing.specs.Lines.{leaf_form, leaf_end, constant_form}
use Rattle.listing.specs.Listing.{bits_in, values_text, leaf_line, constant_line, leaf_values, kind_line}
use Rattle.listing.specs.Inner.Lengths.{leaf_length, constant_length, kind_length}
use Rattle.listing.specs.Written.{placed}

-- ---- values

pub values_length : (nan : ℕ) (xs : List Float) → length (values_text nan xs) ≡ 17 * length xs
unfolding values_text
values_length nan [] = refl
values_length nan (x ∷ xs) =
    omega (arith, length-append (hex_of (bits_in nan x)) (values_text nan xs), digits_length 16 16 (bits_in nan x), values_length nan xs)

-- the values from a place on: a space and a value's digits, then the others
pub values_turn : (nan : ℕ) (xs : List Float) (i : ℕ) (d : Float) → i < length xs
    → values_text nan (drop i xs) ≡ (32 ∷ []) ++ (hex_of (bits_in nan (get_or xs i d)) ++ values_text nan (drop (i + 1) xs))
unfolding values_text
values_turn nan xs i d below = rw add-one (rw (drop-cons xs i d below))

pub values_done : (nan : ℕ) (xs : List Float) (i : ℕ) → i ≤ length xs → length xs ≤ i → values_text nan (drop i xs) ≡ []
unfolding values_text
values_done nan xs i within past = let all : i ≡ length xs = omega arith in rw (all, drop-length xs)

-- a stretch of the store holds the values of the leaf that has its place
pub stretch_values : (points place : ℕ) (store : List Float) → (place + 1) * points ≤ length store
    → take points (drop (place * points) store) ≡ leaf_values points store place
unfolding leaf_values
stretch_values points place store within =
    let long : length (take points (drop (place * points) store)) ≡ points =
    length-take-le points (drop (place * points) store) (omega (arith, length-drop (place * points) store)) in
    ext_get_or plus_zero (take points (drop (place * points) store)) (tabulate points (λ p. get_or store (place * points + p) plus_zero))
    (long ∙ sym (length_tabulate points _))
    (λ i below.
    get_or-take points (drop (place * points) store) i plus_zero (omega (arith, long))
    ∙ get_or-drop (place * points) store i plus_zero
    ∙ sym (get_d_tabulate points (λ p. get_or store (place * points + p) plus_zero) i plus_zero (omega (arith, long))))

-- ---- lengths

decimal_most : (k x : ℕ) → decimal_count k x ≤ suc k
unfolding decimal_count
decimal_most zero x = omega arith
decimal_most (suc k) x = by (ltb x 10) (decimal_most k (x / 10))
  where
    by : (b : Bool) → decimal_count k (x / 10) ≤ suc k → cond b 1 (suc (decimal_count k (x / 10))) ≤ suc (suc k)
    by true rest = omega arith
    by false rest = omega arith

pub decimal_length : (x : ℕ) → length (decimal_of x) ≤ 20
decimal_length x = omega (arith, digits_length 10 (decimal_count 19 x) x, decimal_most 19 x)

-- two decimal numbers with a space between them have at most 41 bytes
numbers_most : (v c : ℕ) (t : List ℕ) → length (decimal_of v ++ (32 ∷ (decimal_of c ++ t))) ≤ 41 + length t
numbers_most v c t =
    omega (arith, length-append (decimal_of v) (32 ∷ (decimal_of c ++ t)), length-append (decimal_of c) t, decimal_length v, decimal_length c)

pub leaf_front_most : (v c : ℕ) → length (spell leaf_form (v ∷ c ∷ [])) ≤ 47
unfolding spell spell_piece piece_of is_field after
leaf_front_most v c = omega (arith, numbers_most v c [])

constant_most : (v c : ℕ) → constant_length v c ≤ 71
unfolding constant_length spell spell_piece piece_of is_field after
constant_most v c =
    omega (arith, numbers_most v c (32 ∷ (hex_of 0 ++ (41 ∷ 10 ∷ []))), length-append (hex_of 0) (41 ∷ 10 ∷ []), digits_length 16 16 0)

-- a child's line
module _ (points v c kind : ℕ) where
  pub kind_most : kind_length points v c kind ≤ 17 * points + 71
  unfolding kind_length leaf_length
  kind_most = by (eqb kind 0) (eqb kind 2)
    where
      by : (a b : Bool) → cond a 0 (cond b (leaf_length points v c) (constant_length v c)) ≤ 17 * points + 71
      by true b = omega arith
      by false true = omega (arith, leaf_front_most v c)
      by false false = omega (arith, constant_most v c)

  pub leaf_length_lem : (kind ≡ 0 → ⊥) → kind ≡ 2 → kind_length points v c kind ≡ leaf_length points v c
  unfolding kind_length
  leaf_length_lem some is = rw (ne_eqb kind 0 some, eq-eqb kind 2 is)

  pub constant_length_lem : (kind ≡ 0 → ⊥) → (kind ≡ 2 → ⊥) → kind_length points v c kind ≡ constant_length v c
  unfolding kind_length
  constant_length_lem some other = rw (ne_eqb kind 0 some, ne_eqb kind 2 other)

  module _ (nan : ℕ) (x : Float) (place : ℕ) (store : List Float) where
    pub no_line : kind ≡ 0 → kind_line points nan v c kind x place store ≡ []
    unfolding kind_line
    no_line none = rw (eq-eqb kind 0 none)

    pub leaf_line_lem : (kind ≡ 0 → ⊥) → kind ≡ 2 → kind_line points nan v c kind x place store ≡ leaf_line nan v c (leaf_values points store place)
    unfolding kind_line
    leaf_line_lem some is = rw (ne_eqb kind 0 some, eq-eqb kind 2 is)

    pub constant_line_lem : (kind ≡ 0 → ⊥) → (kind ≡ 2 → ⊥) → kind_line points nan v c kind x place store ≡ constant_line v c x
    unfolding kind_line
    constant_line_lem some other = rw (ne_eqb kind 0 some, ne_eqb kind 2 other)

leaf_measured : (points nan v c place : ℕ) (store : List Float) → length (leaf_line nan v c (leaf_values points store place)) ≡ leaf_length points v c
unfolding leaf_line leaf_length leaf_values
leaf_measured points nan v c place store =
    omega (
      arith,
      length-append (spell leaf_form (v ∷ c ∷ [])) (values_text nan (leaf_values points store place) ++ leaf_end),
      length-append (values_text nan (leaf_values points store place)) leaf_end,
      values_length nan (leaf_values points store place),
      length_tabulate points (λ p. get_or store (place * points + p) plus_zero),
    )

constant_measured : (v c : ℕ) (x : Float) → length (constant_line v c x) ≡ constant_length v c
unfolding constant_line constant_length spell spell_piece piece_of is_field after
constant_measured v c x =
    omega (arith, around (to_bits binary64 x), around 0)
  where
    around : (b : ℕ) → length (decimal_of v ++ (32 ∷ (decimal_of c ++ (32 ∷ (hex_of b ++ (41 ∷ 10 ∷ [])))))) ≡ length (decimal_of v) + length (decimal_of c) + 20
    around b =
        omega (
          arith,
          length-append (decimal_of v) (32 ∷ (decimal_of c ++ (32 ∷ (hex_of b ++ (41 ∷ 10 ∷ []))))),
          length-append (decimal_of c) (32 ∷ (hex_of b ++ (41 ∷ 10 ∷ []))),
          length-append (hex_of b) (41 ∷ 10 ∷ []),
          digits_length 16 16 b,
        )

pub line_measured : (points nan v c kind : ℕ) (x : Float) (place : ℕ) (store : List Float)
    → length (kind_line points nan v c kind x place store) ≡ kind_length points v c kind
unfolding kind_line kind_length
line_measured points nan v c kind x place store = by (eqb kind 0) (eqb kind 2)
  where
    by : (a b : Bool) → length (cond a [] (cond b (leaf_line nan v c (leaf_values points store place)) (constant_line v c x)))
        ≡ cond a 0 (cond b (leaf_length points v c) (constant_length v c))
    by true b = refl
    by false true = leaf_measured points nan v c place store
    by false false = constant_measured v c x

-- ---- a line's parts

-- a leaf's line: its front, the values and the end
pub leaf_parts : (nan v c : ℕ) (values : List Float)
    → leaf_line nan v c values ≡ spell leaf_form (v ∷ c ∷ []) ++ (values_text nan values ++ spell (map piece_of (41 ∷ 10 ∷ [])) [])
unfolding leaf_line spell spell_piece piece_of is_field after
leaf_parts nan v c values = refl

-- where a leaf's place says that its values are
pub placed_leaf : (points size kind place : ℕ) → kind ≡ 2 → placed points size kind place ≡ true → (place + 1) * points ≤ size
unfolding placed
placed_leaf points size kind place is ok =
    leb-true ((place + 1) * points) size (rw (eq-eqb kind 2 is) at ok)

-- the stretch that is lent for a leaf
pub lent_values : (points place : ℕ) (store : List Float) → (place + 1) * points ≤ length store
    → take (place * points + points - place * points) (drop (place * points) store) ≡ leaf_values points store place
lent_values points place store within =
    let size : place * points + points - place * points ≡ points = omega arith in
    ap (λ n. take n (drop (place * points) store)) size ∙ stretch_values points place store within

-- a constant's line, by its number's bits
pub constant_put : (v c : ℕ) (x : Float) {b : ℕ} → b ≡ to_bits binary64 x → spell constant_form (v ∷ c ∷ b ∷ []) ≡ constant_line v c x
unfolding constant_line
constant_put v c x {b} bits = ap (λ n. spell constant_form (v ∷ c ∷ n ∷ [])) bits
