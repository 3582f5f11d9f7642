-- A digit and its byte; how many digits a number has.
use mathlib.Core.Path.{◌≡◌, refl, sym, ap, ◌∙◌}
use Prim.Native.Nat.{ℕ, zero, suc, ◌+◌, ◌-◌, ◌*◌, ◌/◌, ◌%◌, ◌^◌, ◌≤◌, ◌<◌}
use native.Mathlib.Nat.{one-le-pow, pow-succ', add-zero, div-eq_of_lt, mod-eq_of_lt, mul-add-div_right, mul-add-mod_self_right}
use native.Mathlib.Numerals.{add-one}
use native.Mathlib.Omega.{arith}
use mathlib.Core.List.{[], ◌∷◌, ◌++◌}
use borrow.Author.Tests.{lt-ltb, le-ltb, le-leb, lt-leb}
use lib.ListN.{length, length-append}
use Rattle.forms.specs.Digits.{digit_byte, digit_value, digit_of, digits, decimal_count, decimal_of}
use Rattle.forms.proofs.Cases.{below_or}

-- ---- a digit and its byte

pub digit_below : (b : ℕ) → b < 48 → digit_of b ≡ 16
unfolding digit_of digit_value
digit_below b low = simp (lt-leb 48 b low, lt-leb 97 b (omega arith))

pub digit_number : (b : ℕ) → 48 ≤ b → b ≤ 57 → digit_of b ≡ b - 48
unfolding digit_of digit_value
digit_number b low high = simp (le-leb 48 b low, le-leb b 57 high)

pub digit_between : (b : ℕ) → 57 < b → b < 97 → digit_of b ≡ 16
unfolding digit_of digit_value
digit_between b low high = simp (le-leb 48 b (omega arith), lt-leb b 57 low, lt-leb 97 b high)

pub digit_letter : (b : ℕ) → 97 ≤ b → b ≤ 102 → digit_of b ≡ b - 87
unfolding digit_of digit_value
digit_letter b low high = simp (le-leb 48 b (omega arith), lt-leb b 57 (omega arith), le-leb 97 b low, le-leb b 102 high)

pub digit_above : (b : ℕ) → 102 < b → digit_of b ≡ 16
unfolding digit_of digit_value
digit_above b low = simp (le-leb 48 b (omega arith), lt-leb b 57 (omega arith), le-leb 97 b (omega arith), lt-leb b 102 low)

pub byte_number : (d : ℕ) → d < 10 → digit_byte d ≡ 48 + d
unfolding digit_byte
byte_number d low = simp (lt-ltb d 10 low)

pub byte_letter : (d : ℕ) → 10 ≤ d → digit_byte d ≡ 87 + d
unfolding digit_byte
byte_letter d high = simp (le-ltb d 10 high)

-- a digit's byte counts as the digit
pub digit_of_byte : (d : ℕ) → d < 16 → digit_of (digit_byte d) ≡ d
digit_of_byte d small =
    below_or d 10
    (λ low. rw (byte_number d low) (digit_number (48 + d) (omega arith) (omega arith) ∙ omega arith))
    (λ high. rw (byte_letter d high) (digit_letter (87 + d) (omega arith) (omega arith) ∙ omega arith))

-- a byte that is a digit is that digit's byte
pub byte_of_digit : (b : ℕ) → digit_of b < 16 → digit_byte (digit_of b) ≡ b
byte_of_digit b small =
    below_or b 48 (λ low. absurd (omega (arith, digit_below b low))) λ least.
    below_or b 58 (λ high. rw (digit_number b least (omega arith)) (byte_number (b - 48) (omega arith) ∙ omega arith)) λ more.
    below_or b 97 (λ low. absurd (omega (arith, digit_between b more low))) λ letter.
    below_or b 103 (λ high. rw (digit_letter b letter (omega arith)) (byte_letter (b - 87) (omega arith) ∙ omega arith)) λ above.
    absurd (omega (arith, digit_above b above))

-- ---- digits in a base

pub digits_length : (base k x : ℕ) → length (digits base k x) ≡ k
unfolding digits
digits_length base zero x = refl
digits_length base (suc k) x =
    rw (length-append (digits base k (x / base)) (digit_byte (x % base) ∷ []), digits_length base k (x / base)) (add-one k)

-- one digit more at the end
pub digits_more : (base k v d : ℕ) → d < base → digits base (suc k) (v * base + d) ≡ digits base k v ++ (digit_byte d ∷ [])
unfolding digits
digits_more base k v d small =
    let some : 0 < base = omega arith in
    let front : (v * base + d) / base ≡ v = mul-add-div_right some v d ∙ ap (λ (n : ℕ). v + n) (div-eq_of_lt small) ∙ add-zero v in
    let last : (v * base + d) % base ≡ d = mul-add-mod_self_right v base d ∙ mod-eq_of_lt small in
    rw (front, last)

-- ---- how many decimal digits

pub count_one : (k x : ℕ) → x < 10 → decimal_count k x ≡ 1
unfolding decimal_count
count_one zero x small = refl
count_one (suc k) x small = rw (lt-ltb x 10 small)

pub count_next : (k x : ℕ) → 10 ≤ x → decimal_count (suc k) x ≡ suc (decimal_count k (x / 10))
unfolding decimal_count
count_next k x large = rw (le-ltb x 10 large)

pub tenth_below : (k x : ℕ) → x < 10 ^ suc k → x / 10 < 10 ^ k
tenth_below k x below = let power : 10 ^ suc k ≡ 10 * 10 ^ k = pow-succ' 10 k in omega arith

-- a number below the power has no more digits than the exponent says
pub count_most : (k w x : ℕ) → 0 < w → x < 10 ^ w → decimal_count k x ≤ w
unfolding decimal_count
count_most zero w x some below = omega arith
count_most (suc k) zero x some below = absurd (omega arith)
count_most (suc k) (suc zero) x some below = rw (count_one (suc k) x below) (omega arith)
count_most (suc k) (suc (suc w)) x some below =
    below_or x 10
    (λ small. rw (count_one (suc k) x small) (omega arith))
    (λ large. rw (count_next k x large) (omega (arith, count_most k (suc w) (x / 10) (omega arith) (tenth_below (suc w) x below))))

-- a number between two powers of ten has one digit more than the exponent of the lower
pub count_between : (w k x : ℕ) → w ≤ k → 10 ^ w ≤ x → x < 10 * 10 ^ w → decimal_count k x ≡ w + 1
count_between zero k x within least most = count_one k x (omega arith)
count_between (suc w) zero x within least most = absurd (omega arith)
count_between (suc w) (suc k) x within least most =
    let power : 10 ^ suc w ≡ 10 * 10 ^ w = pow-succ' 10 w in
    let some : 1 ≤ 10 ^ w = one-le-pow w 10 (omega arith) in
    let rest = count_between w k (x / 10) (omega arith) (omega (arith, power)) (omega (arith, power)) in
    omega (arith, count_next k x (omega (arith, power)), rest)

pub count_limit : (k x : ℕ) → decimal_count k x ≤ suc k
unfolding decimal_count
count_limit zero x = omega arith
count_limit (suc k) x =
    below_or x 10
    (λ small. rw (count_one (suc k) x small) (omega arith))
    (λ large. rw (count_next k x large) (omega (arith, count_limit k (x / 10))))

-- where the digits are few enough, one more to count makes no difference
pub count_same : (k x : ℕ) → x < 10 ^ suc k → decimal_count (suc k) x ≡ decimal_count k x
count_same zero x below = count_one 1 x below ∙ sym (count_one 0 x below)
count_same (suc k) x below =
    below_or x 10
    (λ small. count_one (suc (suc k)) x small ∙ sym (count_one (suc k) x small))
    (λ large. rw (count_next (suc k) x large, count_next k x large, count_same k (x / 10) (tenth_below (suc k) x below)))

pub zero_decimal : decimal_of 0 ≡ 48 ∷ []
unfolding digits decimal_count digit_byte
zero_decimal = refl

pub decimal_one : (x : ℕ) → x < 10 → decimal_of x ≡ digit_byte x ∷ []
unfolding digits
decimal_one x small = rw (count_one 19 x small, mod-eq_of_lt small)

pub decimal_more : (v d : ℕ) → 0 < v → v < 10 ^ 19 → d < 10 → decimal_of (v * 10 + d) ≡ decimal_of v ++ (digit_byte d ∷ [])
decimal_more v d some below small =
    let tenth : (v * 10 + d) / 10 ≡ v = omega arith in
    rw (count_next 18 (v * 10 + d) (omega arith), tenth, ← count_same 18 v below) (digits_more 10 (decimal_count 19 v) v d small)
