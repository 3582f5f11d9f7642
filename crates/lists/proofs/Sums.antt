-- Laws of sums over a range of numbers.
use Prim.Native.Nat.{ℕ, zero, suc, ◌+◌, ◌*◌, ◌/◌, ◌%◌, ◌-◌, ◌≤◌, ◌<◌}
use mathlib.Core.Path.{◌≡◌, refl, sym, ap, ◌∙◌}
use mathlib.Core.Bool.{Bool, true, false, ◌&&◌}
use native.Mathlib.Nat.{zero-add, suc-add, add-suc, add-zero, mul-zero, mul-suc, mul-add, add-mul, zero-mul}
use native.Mathlib.Nat.{mod-eq_of_lt, div-eq_of_lt, mul-add-mod_self_left, mul-add-div}
use native.Mathlib.Omega.{arith}
use Rattle.lists.specs.Sums.{sum_from, sum_below, bit}

-- one term more, at the end
pub sum_from_snoc : (f : ℕ → ℕ) (r i : ℕ) → sum_from f (suc r) i ≡ sum_from f r i + f (i + r)
unfolding sum_from
sum_from_snoc f zero i = rw (add-zero i) (omega arith)
sum_from_snoc f (suc r) i =
    let h : f (suc i) + sum_from f r (suc (suc i)) ≡ sum_from f r (suc i) + f (suc i + r) = sum_from_snoc f r (suc i) in
    rw (add-suc i r, ← suc-add i r) (omega arith)

-- the same from 0
pub sum_below_snoc : (f : ℕ → ℕ) (n : ℕ) → sum_below f (suc n) ≡ sum_below f n + f n
sum_below_snoc f n = sum_from_snoc f n 0 ∙ ap (λ k. sum_below f n + f k) (zero-add n)

-- a sum of terms, each at most b
pub sum_from_most : (f : ℕ → ℕ) (b : ℕ) → ((i : ℕ) → f i ≤ b) → (r i : ℕ) → sum_from f r i ≤ r * b
unfolding sum_from
sum_from_most f b h zero i = omega arith
sum_from_most f b h (suc r) i = omega (arith, h i, sum_from_most f b h r (suc i))

-- a sum of terms, each at most another's
pub sum_from_mono : (f g : ℕ → ℕ) → ((i : ℕ) → f i ≤ g i) → (r i : ℕ) → sum_from f r i ≤ sum_from g r i
unfolding sum_from
sum_from_mono f g h zero i = omega arith
sum_from_mono f g h (suc r) i = omega (arith, h i, sum_from_mono f g h r (suc i))

-- a bit is at most 1
pub bit_most : (b : Bool) → bit b ≤ 1
bit_most true = omega arith
bit_most false = omega arith

-- n bits sum to at most n
pub sum_bits_most : (f : ℕ → Bool) (n : ℕ) → sum_below (λ i. bit (f i)) n ≤ n
sum_bits_most f n = omega (arith, sum_from_most (λ i. bit (f i)) 1 (λ i. bit_most (f i)) n 0)

-- a sum whose first bit is set
pub sum_from_first : (f : ℕ → Bool) (r i : ℕ) → f i ≡ true → 0 < r → 1 ≤ sum_from (λ i. bit (f i)) r i
unfolding sum_from
sum_from_first f zero i e h = absurd (omega arith)
sum_from_first f (suc r) i e h = rw e (omega arith)

-- more terms sum to no less
sum_below_more : (f : ℕ → ℕ) (a d : ℕ) → sum_below f a ≤ sum_below f (a + d)
sum_below_more f a zero = rw add-zero (omega arith)
sum_below_more f a (suc d) = rw (add-suc, sum_below_snoc f) (omega (arith, sum_below_more f a d))

-- the same by the order
pub sum_below_le : (f : ℕ → ℕ) (a b : ℕ) → a ≤ b → sum_below f a ≤ sum_below f b
sum_below_le f a b h =
    let e : a + (b - a) ≡ b = omega arith in
    rw e at (sum_below_more f a (b - a))

-- ---- sums from 0

pub sum_below_most : (n b : ℕ) (f : ℕ → ℕ) → ((i : ℕ) → f i ≤ b) → sum_below f n ≤ n * b
sum_below_most n b f most = sum_from_most f b most n 0

-- only the terms below n count
pub sum_below_cong : (n : ℕ) (f h : ℕ → ℕ) → ((i : ℕ) → i < n → f i ≡ h i) → sum_below f n ≡ sum_below h n
unfolding sum_from
sum_below_cong zero f h same = refl
sum_below_cong (suc n) f h same =
    let rest : sum_below f n ≡ sum_below h n = sum_below_cong n f h (λ i below. same i (omega arith)) in
    let last : f n ≡ h n = same n (omega arith) in
    sum_below_snoc f n ∙ (λ t. rest t + last t) ∙ sym (sum_below_snoc h n)

sum_none : (f : ℕ → ℕ) → sum_below f 0 ≡ 0
unfolding sum_from
sum_none f = refl

sum_append : (a b : ℕ) (f : ℕ → ℕ) → sum_below f (a + b) ≡ sum_below f a + sum_below (λ i. f (a + i)) b
sum_append a zero f = ap (sum_below f) (add-zero a) ∙ omega (arith, sum_none (λ i. f (a + i)))
sum_append a (suc b) f =
    ap (sum_below f) (add-suc a b)
    ∙ omega (arith, sum_below_snoc f (a + b), sum_append a b f, sum_below_snoc (λ i. f (a + i)) b)

sum_scale : (n k : ℕ) (f : ℕ → ℕ) → sum_below (λ i. f i * k) n ≡ sum_below f n * k
sum_scale zero k f = sum_none (λ i. f i * k) ∙ sym (ap (λ (x : ℕ). x * k) (sum_none f) ∙ zero-mul k)
sum_scale (suc n) k f =
    sum_below_snoc (λ i. f i * k) n ∙ ap (λ (x : ℕ). x + f n * k) (sum_scale n k f) ∙ sym (add-mul (sum_below f n) (f n) k)
    ∙ ap (λ (x : ℕ). x * k) (sym (sum_below_snoc f n))

-- rows of a numbers each
pub sum_rows : (a b : ℕ) (f h : ℕ → ℕ) → sum_below (λ p. f (p % a) * h (p / a)) (a * b) ≡ sum_below f a * sum_below h b
sum_rows a zero f h =
    ap (sum_below (λ p. f (p % a) * h (p / a))) (mul-zero a) ∙ sum_none (λ p. f (p % a) * h (p / a))
    ∙ sym (ap (λ (x : ℕ). sum_below f a * x) (sum_none h) ∙ mul-zero (sum_below f a))
sum_rows a (suc b) f h =
    let term : ℕ → ℕ = λ p. f (p % a) * h (p / a) in
    ap (sum_below term) (mul-suc a b)
    ∙ sum_append (a * b) a term
    ∙ ap (λ (x : ℕ). x + sum_below (λ i. term (a * b + i)) a) (sum_rows a b f h)
    ∙ ap (λ (x : ℕ). sum_below f a * sum_below h b + x) (sum_below_cong a (λ i. term (a * b + i)) (λ i. f i * h b) row ∙ sum_scale a (h b) f)
    ∙ sym (mul-add (sum_below f a) (sum_below h b) (h b))
    ∙ ap (λ (x : ℕ). sum_below f a * x) (sym (sum_below_snoc h b))
  where
    row : (i : ℕ) → i < a → f ((a * b + i) % a) * h ((a * b + i) / a) ≡ f i * h b
    row i below =
        let at : (a * b + i) % a ≡ i = mul-add-mod_self_left a b i ∙ mod-eq_of_lt below in
        let which : (a * b + i) / a ≡ b = mul-add-div (omega arith) b i ∙ ap (λ (x : ℕ). b + x) (div-eq_of_lt below) ∙ add-zero b in
        λ t. f (at t) * h (which t)

-- three tests at once, as a product
pub bit_product : (a b c : Bool) → bit (a && b && c) ≡ bit a * bit b * bit c
bit_product false b c = sym (ap (λ (x : ℕ). x * bit c) (zero-mul (bit b)) ∙ zero-mul (bit c))
bit_product true false c = sym (zero-mul (bit c))
bit_product true true false = refl
bit_product true true true = refl
