-- Rounding keeps the order of signed fractions, so a difference x - h is at most the sum y + h, for x at most y and an h that is not negative. Assumes nothing.
use Rattle.std.proofs.Common.{◌≡◌, ℕ, zero, suc, ◌+◌, ◌-◌, ◌*◌, ◌/◌, ◌%◌, ◌^◌, ◌<◌, ◌≤◌, Bool, true, false, cond, not, T, ltb, sym, refl, ap, ◌∙◌, inl, inr, mul-le-mul_right, eq-zero-or-pos, mul-pos, zero-mul, arith, ltb→lt, nltb→le, pow_pos}
use Prim.Native.Nat.{compare}
use mathlib.Core.Bool.{beq}
use lib.Ieee.{Float, nan, inf, fin, Format, prec, emax, low, up, down, size, nearest, odd, units, round, neg, sum, add, sub, le, is_nan}
use lib.Ieee.Fits.{down_pos}
use lib.Ieee.Exact.{HasValue, round_exact}
use lib.Ieee.Order.{round_mono}
use Rattle.float.proofs.FloatOrder.{plus_part, minus_part, AtMost, number, plus_mul, minus_mul, at_most, at_most_test, minus_infinity_le, le_infinity}

-- ---- the sign of a rounded value
abbrev pub has_sign : Bool → Float → Bool
has_sign s nan = false
has_sign s (inf t) = beq s t
has_sign s (fin t m e) = beq s t

same_sign : (s : Bool) → T (beq s s)
same_sign false = tt
same_sign true = tt

pub odd_has_sign : (d : ℕ) (s : Bool) (q k l : ℕ) → T (has_sign s (odd d s q k l))
unfolding odd
odd_has_sign d s zero k l = same_sign s
odd_has_sign d s (suc q) k l = same_sign s

units_sign : (f : Format) (s : Bool) (q k : ℕ) → T (has_sign s (units f s q k))
unfolding units
units_sign f s q k = go (ltb (q * 2 ^ k) (2 ^ (low f + suc (emax f))))
  where
    go : (b : Bool) → T (has_sign s (cond b (odd (suc (prec f)) s q k (low f)) (inf s)))
    go true = odd_has_sign (suc (prec f)) s q k (low f)
    go false = same_sign s

pub round_sign : (f : Format) (s : Bool) (a c : ℕ) → T (has_sign s (round f s a c))
unfolding round
round_sign f s a c =
    let n = a * 2 ^ low f in
    let k = size (n / c) - prec f in
    let u = c * 2 ^ k in
    units_sign f s (nearest (n / u) (compare (n % u * 2) u)) k

-- ---- a negative fraction is rounded as its opposite is
odd_mirror : (d q k l : ℕ) → odd d true q k l ≡ neg (odd d false q k l)
unfolding odd neg
odd_mirror d zero k l = refl
odd_mirror d (suc q) k l = refl

units_mirror : (f : Format) (q k : ℕ) → units f true q k ≡ neg (units f false q k)
unfolding units neg
units_mirror f q k = go (ltb (q * 2 ^ k) (2 ^ (low f + suc (emax f))))
  where
    go : (b : Bool) → cond b (odd (suc (prec f)) true q k (low f)) (inf true) ≡ neg (cond b (odd (suc (prec f)) false q k (low f)) (inf false))
    go true = odd_mirror (suc (prec f)) q k (low f)
    go false = refl

pub round_mirror : (f : Format) (a c : ℕ) → round f true a c ≡ neg (round f false a c)
unfolding round
round_mirror f a c =
    let n = a * 2 ^ low f in
    let k = size (n / c) - prec f in
    let u = c * 2 ^ k in
    units_mirror f (nearest (n / u) (compare (n % u * 2) u)) k

at_most_mirror : (s : Bool) (a : ℕ) (t : Bool) (b : ℕ) → AtMost s a t b → AtMost (not t) b (not s) a
at_most_mirror false a false b h = omega arith
at_most_mirror false a true b h = omega arith
at_most_mirror true a false b h = omega arith
at_most_mirror true a true b h = omega arith

pub neg_le : (x y : Float) → T (le x y) → T (le (neg y) (neg x))
unfolding le neg
neg_le nan y h = absurd h
neg_le (inf s) nan h = absurd h
neg_le (inf true) (inf true) h = tt
neg_le (inf true) (inf false) h = tt
neg_le (inf false) (inf true) h = absurd h
neg_le (inf false) (inf false) h = tt
neg_le (inf true) (fin t n d) h = tt
neg_le (inf false) (fin t n d) h = absurd h
neg_le (fin s m e) nan h = absurd h
neg_le (fin s m e) (inf true) h = absurd h
neg_le (fin s m e) (inf false) h = tt
neg_le (fin s m e) (fin t n d) h =
    let a = m * up e * down d in
    let b = n * up d * down e in
    at_most_test (not t) b (not s) a (at_most_mirror s a t b (at_most s a t b h))

-- ---- rounding keeps the order
-- a value that is not above zero, and one that is not below
opposite_le : (x y : Float) → T (has_sign true x) → T (has_sign false y) → T (le x y)
unfolding le
opposite_le nan y p q = absurd p
opposite_le (inf false) y p q = absurd p
opposite_le (inf true) nan p q = absurd q
opposite_le (inf true) (inf true) p q = tt
opposite_le (inf true) (inf false) p q = tt
opposite_le (inf true) (fin t n d) p q = tt
opposite_le (fin false m e) y p q = absurd p
opposite_le (fin true m e) nan p q = absurd q
opposite_le (fin true m e) (inf true) p q = absurd q
opposite_le (fin true m e) (inf false) p q = tt
opposite_le (fin true m e) (fin true n d) p q = absurd q
opposite_le (fin true m e) (fin false n d) p q = at_most_test true (m * up e * down d) false (n * up d * down e) (omega arith)

-- zeros, of either sign
factor_zero : (a d : ℕ) → 0 < d → a * d ≡ 0 → a ≡ 0
factor_zero a d D e = elim (eq-zero-or-pos a) [ inl z ↦ z | inr p ↦ omega (arith, mul-pos p D) ]

zeros_at_most : (s : Bool) (x p : ℕ) (t : Bool) (y q : ℕ) → x ≡ 0 → y ≡ 0 → AtMost s (x * q) t (y * p)
zeros_at_most false x p false y q u v = rw (u, v) (omega arith)
zeros_at_most false x p true y q u v = rw (u, v) (omega arith)
zeros_at_most true x p false y q u v = omega arith
zeros_at_most true x p true y q u v = rw (u, v) (omega arith)

zeros_le : (x y : Float) (s t : Bool) (c d : ℕ) → 0 < c → 0 < d → HasValue x s 0 c → HasValue y t 0 d → T (le x y)
unfolding le
zeros_le nan y s t c d C D p q = absurd p
zeros_le (inf s') y s t c d C D p q = absurd p
zeros_le (fin s' m e) nan s t c d C D p q = absurd q
zeros_le (fin s' m e) (inf t') s t c d C D p q = absurd q
zeros_le (fin s' m e) (fin t' n g) s t c d C D p q =
    at_most_test s' (m * up e * down g) t' (n * up g * down e)
    (zeros_at_most s' (m * up e) (down e) t' (n * up g) (down g)
    (factor_zero (m * up e) c C (p.1 ∙ zero-mul (down e)))
    (factor_zero (n * up g) d D (q.1 ∙ zero-mul (down g))))

zero_value : (f : Format) (s : Bool) (c : ℕ) → 0 < c → HasValue (round f s 0 c) s 0 c
zero_value f s c C = round_exact f s 0 c 0 0 C (pow_pos (prec f)) (pow_pos (low f + suc (emax f))) (zero-mul (2 ^ low f) ∙ sym (zero-mul c))

pub round_at_most : (f : Format) (s : Bool) (a c : ℕ) (t : Bool) (b d : ℕ) → 0 < c → 0 < d → AtMost s (a * d) t (b * c) → T (le (round f s a c) (round f t b d))
round_at_most f false a c false b d C D h = round_mono f a c b d C D (omega arith)
round_at_most f false a c true b d C D h =
    let z : a ≡ 0 = factor_zero a d D (omega arith) in
    let w : b ≡ 0 = factor_zero b c C (omega arith) in
    rw (z, w) (zeros_le (round f false 0 c) (round f true 0 d) false true c d C D (zero_value f false c C) (zero_value f true d D))
round_at_most f true a c false b d C D h = opposite_le (round f true a c) (round f false b d) (round_sign f true a c) (round_sign f false b d)
round_at_most f true a c true b d C D h =
    rw (round_mirror f a c, round_mirror f b d) (neg_le (round f false b d) (round f false a c) (round_mono f b d a c D C (omega arith)))

-- ---- the sum of two signed fractions of one denominator, exactly: the signed number that is rounded
abbrev pub Sum : Format → Bool → ℕ → Bool → ℕ → ℕ → Type 0
Sum f s a t b c =
    (u : Bool) × (n : ℕ) × (sum f s a t b c ≡ round f u n c) × (plus_part u n + (minus_part s a + minus_part t b) ≡ minus_part u n + (plus_part s a + plus_part t b))

exact_sum : (f : Format) (s : Bool) (a : ℕ) (t : Bool) (b c : ℕ) → Sum f s a t b c
unfolding sum
exact_sum f false a false b c = (false, a + b, refl, omega arith)
exact_sum f true a true b c = (true, a + b, refl, omega arith)
exact_sum f false a true b c = go (ltb a b) (ltb→lt a b) (nltb→le a b)
  where
    go : (l : Bool) → (T l → a < b) → (T (not l) → b ≤ a)
        → (u : Bool) × (n : ℕ) × (cond l (round f true (b - a) c) (round f false (a - b) c) ≡ round f u n c) × (plus_part u n + (0 + b) ≡ minus_part u n + (a + 0))
    go true h k = (true, b - a, refl, omega (arith, h tt))
    go false h k = (false, a - b, refl, omega (arith, k tt))
exact_sum f true a false b c = go (ltb a b) (ltb b a) (ltb→lt a b) (nltb→le a b) (nltb→le b a)
  where
    go : (l r : Bool) → (T l → a < b) → (T (not l) → b ≤ a) → (T (not r) → a ≤ b)
        → (u : Bool) × (n : ℕ) × (cond l (round f false (b - a) c) (round f r (a - b) c) ≡ round f u n c) × (plus_part u n + (a + 0) ≡ minus_part u n + (0 + b))
    go true r h k j = (false, b - a, refl, omega (arith, h tt))
    go false true h k j = (true, a - b, refl, omega (arith, k tt))
    go false false h k j = (false, a - b, refl, omega (arith, k tt, j tt))

-- x / p ≤ y / q, so x / p - w / r ≤ y / q + w / r: g and g' are the parts of the difference over p * r, k and k' those of the sum over q * r
spread : (x x' y y' w p q r g g' k k' : ℕ) → x * q + y' * p ≤ y * p + x' * q → g + (x' * r + w * p) ≡ g' + (x * r + 0) → k + (y' * r + 0) ≡ k' + (y * r + w * q)
    → g * (q * r) + k' * (p * r) ≤ k * (p * r) + g' * (q * r)
spread x x' y y' w p q r g g' k k' h d s =
    omega (arith, mul-le-mul_right (r * r) h, ap (λ (z : ℕ). z * (q * r)) d, ap (λ (z : ℕ). z * (p * r)) s)

sums_le : (f : Format) (s : Bool) (x p : ℕ) (t : Bool) (y q w r : ℕ) → 0 < p → 0 < q → 0 < r → AtMost s (x * q) t (y * p)
    → T (le (sum f s (x * r) true (w * p) (p * r)) (sum f t (y * r) false (w * q) (q * r)))
sums_le f s x p t y q w r P Q R h =
    let (u, g, e, d) = exact_sum f s (x * r) true (w * p) (p * r) in
    let (v, k, e', d') = exact_sum f t (y * r) false (w * q) (q * r) in
    let h' : plus_part s x * q + minus_part t y * p ≤ plus_part t y * p + minus_part s x * q = omega (arith, plus_mul s x q, minus_mul t y p, plus_mul t y p, minus_mul s x q) in
    let z = spread (plus_part s x) (minus_part s x) (plus_part t y) (minus_part t y) w p q r (plus_part u g) (minus_part u g) (plus_part v k) (minus_part v k) h'
    (omega (arith, plus_mul s x r, minus_mul s x r)) (omega (arith, plus_mul t y r, minus_mul t y r)) in
    rw (e, e')
    (round_at_most f u g (p * r) v k (q * r) (mul-pos P R) (mul-pos Q R)
    (omega (arith, z, plus_mul u g (q * r), minus_mul u g (q * r), plus_mul v k (p * r), minus_mul v k (p * r))))

-- where neither result is a NaN: x - h ≤ y + h for x ≤ y and an h that is not negative
pub difference_le_sum : (f : Format) (x y h : Float) → T (le x y) → T (has_sign false h) → T (number (sub f x h)) → T (number (add f y h)) → T (le (sub f x h) (add f y h))
unfolding le sub add neg is_nan
difference_le_sum f x y nan a b c d = absurd b
difference_le_sum f x y (inf true) a b c d = absurd b
difference_le_sum f x y (fin true l k) a b c d = absurd b
difference_le_sum f nan y (inf false) a b c d = absurd a
difference_le_sum f (inf true) y (inf false) a b c d = minus_infinity_le (add f y (inf false)) d
difference_le_sum f (inf false) y (inf false) a b c d = absurd c
difference_le_sum f (fin s m e) y (inf false) a b c d = minus_infinity_le (add f y (inf false)) d
difference_le_sum f nan y (fin false l k) a b c d = absurd a
difference_le_sum f (inf true) y (fin false l k) a b c d = minus_infinity_le (add f y (fin false l k)) d
difference_le_sum f (inf false) nan (fin false l k) a b c d = absurd a
difference_le_sum f (inf false) (inf true) (fin false l k) a b c d = absurd a
difference_le_sum f (inf false) (inf false) (fin false l k) a b c d = tt
difference_le_sum f (inf false) (fin t n g) (fin false l k) a b c d = absurd a
difference_le_sum f (fin s m e) nan (fin false l k) a b c d = absurd a
difference_le_sum f (fin s m e) (inf true) (fin false l k) a b c d = absurd a
difference_le_sum f (fin s m e) (inf false) (fin false l k) a b c d = le_infinity (sub f (fin s m e) (fin false l k)) c
difference_le_sum f (fin s m e) (fin t n g) (fin false l k) a b c d =
    sums_le f s (m * up e) (down e) t (n * up g) (down g) (l * up k) (down k) (down_pos e) (down_pos g) (down_pos k)
    (at_most s (m * up e * down g) t (n * up g * down e) a)
