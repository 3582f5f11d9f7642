-- The pruning rule at the band's edge (rule G13): a child whose upper sum just meets the band is a leaf, and so is one with a NaN at every corner.
-- Both hold for any floats, whether a format holds them or not, and for octets of any length above none, the first also for none. Assumes nothing.
use Rattle.std.proofs.Common.{◌≡◌, ℕ, zero, suc, ◌+◌, ◌*◌, ◌/◌, ◌^◌, Bool, true, false, cond, not, ◌&&◌, ◌||◌, T, eqb, ◌⊎◌, List, [], ◌∷◌, replicate, pos, refl, inl, inr, T_not}
use lib.Ieee.{Float, nan, inf, fin, Format, binary64, up, down, odd, round, sum, add, sub, mul, div, of_int, lt, eq, le, is_nan}
use lib.Ieee.Fits.{and_r}
use Rattle.root.specs.Root.{square_root, root_of, scale}
use Rattle.root.specs.Nearest.{nearest_root}
use Rattle.float.specs.Select.{min_of, max_of}
use Rattle.float.specs.Zero.{plus_zero}
use Rattle.geometry.specs.declared.BoundingBox.{BoundingBox}
use Rattle.geometry.specs.Distance.{distance_of, distance_squared_of, square}
use Rattle.grid.specs.Pruning.{half_diagonal, folded, from_first, lowest, highest, pruned}
use Rattle.float.proofs.FloatOrder.{number, number_left, number_right, le_trans, le_refl, le_of_eq, le_of_lt, lt_excludes, le_of_not_lt}
use Rattle.float.proofs.FloatRounding.{has_sign, odd_has_sign, round_sign, difference_le_sum}

-- ---- half a diagonal is a NaN or has a clear sign
abbrev unsigned : Float → Bool
unsigned nan = true
unsigned (inf s) = not s
unsigned (fin s m e) = not s

of_sign : (x : Float) → T (has_sign false x) → T (unsigned x)
of_sign nan h = tt
of_sign (inf true) h = h
of_sign (inf false) h = tt
of_sign (fin true m e) h = h
of_sign (fin false m e) h = tt

sign_of : (x : Float) → T (unsigned x) → T (number x) → T (has_sign false x)
unfolding is_nan
sign_of nan h n = n
sign_of (inf true) h n = h
sign_of (inf false) h n = tt
sign_of (fin true m e) h n = h
sign_of (fin false m e) h n = tt

round_unsigned : (f : Format) (a c : ℕ) → T (unsigned (round f false a c))
round_unsigned f a c = of_sign (round f false a c) (round_sign f false a c)

cond_unsigned : (b : Bool) (x y : Float) → T (unsigned x) → T (unsigned y) → T (unsigned (cond b x y))
cond_unsigned true x y h k = h
cond_unsigned false x y h k = k

square_unsigned : (x : Float) → T (unsigned (square x))
unfolding square mul
square_unsigned nan = tt
square_unsigned (inf true) = tt
square_unsigned (inf false) = tt
square_unsigned (fin true m e) = round_unsigned binary64 (m * up e * (m * up e)) (down e * down e)
square_unsigned (fin false m e) = round_unsigned binary64 (m * up e * (m * up e)) (down e * down e)

add_unsigned : (f : Format) (x y : Float) → T (unsigned x) → T (unsigned y) → T (unsigned (add f x y))
unfolding add sum
add_unsigned f nan y h k = tt
add_unsigned f (inf true) y h k = absurd h
add_unsigned f (inf false) nan h k = tt
add_unsigned f (inf false) (inf true) h k = tt
add_unsigned f (inf false) (inf false) h k = tt
add_unsigned f (inf false) (fin t n d) h k = tt
add_unsigned f (fin true m e) y h k = absurd h
add_unsigned f (fin false m e) nan h k = tt
add_unsigned f (fin false m e) (inf t) h k = k
add_unsigned f (fin false m e) (fin true n d) h k = absurd k
add_unsigned f (fin false m e) (fin false n d) h k = round_unsigned f (m * up e * down d + n * up d * down e) (down e * down d)

root_of_unsigned : (n : ℕ) → T (unsigned (root_of n))
unfolding root_of
root_of_unsigned n =
    let q = nearest_root (n * 2 ^ 1074 / 2 ^ (2 * scale n)) in
    of_sign (odd 53 false q (scale n) 1074) (odd_has_sign 53 false q (scale n) 1074)

root_unsigned : (x : Float) → T (unsigned x) → T (unsigned (square_root x))
unfolding square_root
root_unsigned nan h = tt
root_unsigned (inf true) h = absurd h
root_unsigned (inf false) h = tt
root_unsigned (fin true m e) h = absurd h
root_unsigned (fin false m e) h = cond_unsigned (eqb m 0) (fin false m e) (root_of (m * up e * 2 ^ 1074 / down e)) tt (root_of_unsigned (m * up e * 2 ^ 1074 / down e))

div_unsigned : (f : Format) (x y : Float) → T (unsigned x) → T (unsigned y) → T (unsigned (div f x y))
unfolding div
div_unsigned f nan y h k = tt
div_unsigned f (inf true) y h k = absurd h
div_unsigned f (inf false) nan h k = tt
div_unsigned f (inf false) (inf t) h k = tt
div_unsigned f (inf false) (fin true n d) h k = absurd k
div_unsigned f (inf false) (fin false n d) h k = tt
div_unsigned f (fin true m e) y h k = absurd h
div_unsigned f (fin false m e) nan h k = tt
div_unsigned f (fin false m e) (inf true) h k = absurd k
div_unsigned f (fin false m e) (inf false) h k = tt
div_unsigned f (fin false m e) (fin true n d) h k = absurd k
div_unsigned f (fin false m e) (fin false n d) h k =
    let q = round f false (m * up e * down d) (n * up d * down e) in
    cond_unsigned (eqb n 0) (cond (eqb m 0) nan (inf false)) q (cond_unsigned (eqb m 0) nan (inf false) tt tt) (round_unsigned f (m * up e * down d) (n * up d * down e))

count_unsigned : (n : ℕ) → T (unsigned (of_int binary64 (pos n)))
unfolding of_int
count_unsigned n = round_unsigned binary64 n 1

half_unsigned : (b : BoundingBox) → T (unsigned (half_diagonal b))
unfolding half_diagonal distance_of distance_squared_of
half_unsigned b =
    let p = b.min in
    let q = b.max in
    let x = square (sub binary64 p.x q.x) in
    let y = square (sub binary64 p.y q.y) in
    let z = square (sub binary64 p.z q.z) in
    let xy = add binary64 x y in
    let xyz = add binary64 xy z in
    div_unsigned binary64 (square_root xyz) (of_int binary64 (pos 2))
    (root_unsigned xyz (add_unsigned binary64 xy z (add_unsigned binary64 x y (square_unsigned (sub binary64 p.x q.x)) (square_unsigned (sub binary64 p.y q.y))) (square_unsigned (sub binary64 p.z q.z))))
    (count_unsigned 2)

-- ---- lo is at most hi, unless both are NaN
abbrev Spans : Float → Float → Type 0
Spans lo hi = T (is_nan lo && is_nan hi) ⊎ T (le lo hi)

min_le : (a x : Float) → T (number x) → T (le (min_of a x) x)
unfolding min_of
min_le a x n = go (is_nan x) (is_nan a) (lt x a) n (λ m h. le_of_not_lt x a n m h)
  where
    go : (b p q : Bool) → T (not b) → (T (not p) → T (not q) → T (le a x)) → T (le (cond b a (cond (p || q) x a)) x)
    go true p q m f = absurd m
    go false true q m f = le_refl x n
    go false false true m f = le_refl x n
    go false false false m f = f tt tt

le_max : (a x : Float) → T (number x) → T (le x (max_of a x))
unfolding max_of
le_max a x n = go (is_nan x) (is_nan a) (lt a x) n (λ m h. le_of_not_lt a x m n h)
  where
    go : (b p q : Bool) → T (not b) → (T (not p) → T (not q) → T (le x a)) → T (le x (cond b a (cond (p || q) x a)))
    go true p q m f = absurd m
    go false true q m f = le_refl x n
    go false false true m f = le_refl x n
    go false false false m f = f tt tt

spans_self : (x : Float) → Spans x x
spans_self x = go (is_nan x) (le_refl x)
  where
    go : (b : Bool) → (T (not b) → T (le x x)) → T (b && b) ⊎ T (le x x)
    go true h = inl tt
    go false h = inr (h tt)

-- a NaN changes neither, and any other value lies between the two that it gives
spans_next : (lo hi x : Float) → Spans lo hi → Spans (min_of lo x) (max_of hi x)
unfolding min_of max_of is_nan
spans_next lo hi nan h = h
spans_next lo hi (inf s) h = inr (le_trans (min_of lo (inf s)) (inf s) (max_of hi (inf s)) (min_le lo (inf s) tt) (le_max hi (inf s) tt))
spans_next lo hi (fin s m e) h = inr (le_trans (min_of lo (fin s m e)) (fin s m e) (max_of hi (fin s m e)) (min_le lo (fin s m e) tt) (le_max hi (fin s m e) tt))

spans_from : (lo hi : Float) (l : List Float) → Spans lo hi → Spans (folded min_of lo l) (folded max_of hi l)
unfolding folded
spans_from lo hi [] h = h
spans_from lo hi (x ∷ l) h = spans_from (min_of lo x) (max_of hi x) l (spans_next lo hi x h)

octet_spans : (octet : List Float) → Spans (lowest octet) (highest octet)
unfolding from_first
octet_spans [] = spans_self plus_zero
octet_spans (c ∷ l) = spans_from c c l (spans_self c)

-- ---- the rule
-- neither operand of a sum that is a number is a NaN
add_numbers : (f : Format) (x y : Float) → T (number (add f x y)) → T (number x) × T (number y)
unfolding add is_nan
add_numbers f nan y h = absurd h
add_numbers f (inf s) nan h = absurd h
add_numbers f (inf s) (inf t) h = (tt, tt)
add_numbers f (inf s) (fin t n d) h = (tt, tt)
add_numbers f (fin s m e) nan h = absurd h
add_numbers f (fin s m e) (inf t) h = (tt, tt)
add_numbers f (fin s m e) (fin t n d) h = (tt, tt)

ordered : (lo hi : Float) → Spans lo hi → T (number hi) → T (le lo hi)
ordered lo hi (inl u) n = absurd (T_not (is_nan hi) n (and_r (is_nan lo) (is_nan hi) u))
ordered lo hi (inr h) n = h

neither : (a b : Bool) → (T a → ⊥) → (T b → ⊥) → a || b ≡ false
neither true b f g = absurd (f tt)
neither false true f g = absurd (g tt)
neither false false f g = refl

holds : {b : Bool} → b ≡ true → T b
holds e = rw e tt

-- lo - h ≤ hi + h ≤ least ≤ most, unless lo - h is a NaN; neither comparison of the rule holds then
edge_apart : (lo hi h least most : Float) → Spans lo hi → T (unsigned h) → T (eq (add binary64 hi h) least) → T (le least most) → pruned least most lo hi h ≡ false
unfolding pruned
edge_apart lo hi h least most s u e l =
    let upper = add binary64 hi h in
    let lower = sub binary64 lo h in
    let equal = le_of_eq upper least e in
    let n = number_left upper least equal.0 in
    let both = add_numbers binary64 hi h n in
    let under = difference_le_sum binary64 lo hi h (ordered lo hi s both.0) (sign_of h u both.1) in
    let reach = le_trans upper least most equal.0 l in
    neither (lt upper least) (lt most lower)
    (λ x. lt_excludes upper least x equal.1)
    (λ x. lt_excludes most lower x (le_trans lower upper most (under (number_right most lower (le_of_lt most lower x)) n) reach))

-- where the upper sum is the lower limit, and the limits are in order, the child is a leaf
pub edge_is_leaf : (octet : List Float) (b : BoundingBox) (least most : Float)
    → eq (add binary64 (highest octet) (half_diagonal b)) least ≡ true
    → le least most ≡ true
    → pruned least most (lowest octet) (highest octet) (half_diagonal b) ≡ false
edge_is_leaf octet b least most e l =
    edge_apart (lowest octet) (highest octet) (half_diagonal b) least most (octet_spans octet) (half_unsigned b) (holds e) (holds l)

-- of NaN corners, any number above none, the lowest and the highest are NaN
nan_low : (n : ℕ) → folded min_of nan (replicate n nan) ≡ nan
unfolding folded min_of is_nan
nan_low zero = refl
nan_low (suc n) = nan_low n

nan_high : (n : ℕ) → folded max_of nan (replicate n nan) ≡ nan
unfolding folded max_of is_nan
nan_high zero = refl
nan_high (suc n) = nan_high n

nan_apart : (least most h : Float) → lt (add binary64 nan h) least || lt most (sub binary64 nan h) ≡ false
unfolding lt add sub
nan_apart least nan h = refl
nan_apart least (inf s) h = refl
nan_apart least (fin s m e) h = refl

pub nans_are_leaf : (n : ℕ) (least most h : Float) → pruned least most (lowest (replicate (suc n) nan)) (highest (replicate (suc n) nan)) h ≡ false
unfolding pruned from_first
nans_are_leaf n least most h = rw (nan_low n, nan_high n) (nan_apart least most h)

-- NaN at every corner: a leaf
pub nan_is_leaf : (least most h : Float) → pruned least most (lowest (replicate 8 nan)) (highest (replicate 8 nan)) h ≡ false
nan_is_leaf least most h = nans_are_leaf 7 least most h
