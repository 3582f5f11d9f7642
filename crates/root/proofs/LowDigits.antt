-- Squares and differences but for a multiple of 2 ^ 61.
use mathlib.Core.Path.{◌≡◌, sym, ap, ap₂, ◌∙◌, subst}
use Prim.Native.Nat.{ℕ, zero, suc, ◌+◌, ◌-◌, ◌*◌, ◌/◌, ◌%◌, ◌^◌, ◌≤◌, ◌<◌}
use native.Mathlib.Nat.{mul_comm, mul-le-mul, mod-lt, mod-add-mod}
use native.Mathlib.Omega.{arith}
use lib.Dec.{lit<}
use Rattle.root.specs.Inner.Reduced.{top, scaled}
use Rattle.root.specs.Inner.Trials.{Near}
use Rattle.root.specs.Nearest.{nearest_root}
use Rattle.root.proofs.NearestLaws.{Digits, root_digits}

expand : (h l : ℕ) → (h * 2147483648 + l) * (h * 2147483648 + l) ≡ h * h * 2 ^ 62 + h * l * 2 ^ 32 + l * l
expand h l = omega (arith, mul_comm h l)

-- the square of a number of 53 digits from its upper 22 and its lower 31
pub low_square : (q : ℕ) → q < 2 ^ 53
    → (q / 2147483648 % 4194304 * (q % 2147483648) % 1073741824 * 4294967296 + q % 2147483648 * (q % 2147483648)) % 2 ^ 61 ≡ q * q % 2 ^ 61
low_square q f =
    let h = q / 2147483648 % 4194304 in
    let l = q % 2147483648 in
    let e : q ≡ h * 2147483648 + l = omega arith in
    let s : q * q ≡ h * h * 2 ^ 62 + h * l * 2 ^ 32 + l * l = ap₂ (λ a b. a * b) e e ∙ expand h l in
    omega arith

-- the two products are small
pub record Products (q : ℕ) : Type 0 where
  pub cross : q / 2147483648 % 4194304 * (q % 2147483648) ≤ (2 ^ 22 - 1) * (2 ^ 31 - 1)
  pub low : q % 2147483648 * (q % 2147483648) ≤ (2 ^ 31 - 1) * (2 ^ 31 - 1)

pub products : (q : ℕ) → Products q
products q =
    let h : q / 2147483648 % 4194304 ≤ 2 ^ 22 - 1 = omega arith in
    let l : q % 2147483648 ≤ 2 ^ 31 - 1 = omega arith in
    record { cross = mul-le-mul h l; low = mul-le-mul l l }

-- the scaled operand from the pattern's last nine digits and the last of its exponent; and how large its digits are
pub record LowTop (p : ℕ) : Type 0 where
  pub few : p % 512 * (2 - p / 4503599627370496 % 2) ≤ 1022
  pub same : p % 512 * (2 - p / 4503599627370496 % 2) * 4503599627370496 % 2 ^ 61 ≡ scaled p % 2 ^ 61
  pub least : 2 ^ 52 ≤ top p
  pub most : top p + 2 ≤ 2 ^ 54

pub low_top : (p : ℕ) → LowTop p
low_top p =
    let t = go (p / 2 ^ 52 % 2) (mod-lt (p / 2 ^ 52) (lit< tt)) in
    record { few = t.0; same = t.1; least = t.2; most = t.3 }
  where
    go : (r : ℕ) → r < 2
        → (p % 512 * (2 - r) ≤ 1022) × (p % 512 * (2 - r) * 4503599627370496 % 2 ^ 61 ≡ (p % 2 ^ 52 + 2 ^ 52) * (2 - r) * 2 ^ 52 % 2 ^ 61)
        × (2 ^ 52 ≤ (p % 2 ^ 52 + 2 ^ 52) * (2 - r)) × ((p % 2 ^ 52 + 2 ^ 52) * (2 - r) + 2 ≤ 2 ^ 54)
    go zero h = omega arith
    go (suc zero) h = omega arith
    go (suc (suc r)) h = absurd (let n : suc (suc r) < 2 = h in omega arith)

-- the number nearest to an operand's root has 53 digits
pub scaled_digits : (p q : ℕ) → q ≡ nearest_root (scaled p) → Digits q
scaled_digits p q e =
    let t = low_top p in
    subst Digits (sym e) (root_digits (top p) t.least t.most)

like : (c a b : ℕ) → a % 2 ^ 61 ≡ b % 2 ^ 61 → (c + a) % 2 ^ 61 ≡ (c + b) % 2 ^ 61
like c a b e = omega arith

wrapped : (t : ℕ) → (t + (2 ^ 63 + 3 * 2 ^ 52)) % 2 ^ 61 ≡ (3 * 2 ^ 52 + t) % 2 ^ 61
wrapped t = omega arith

-- the difference of two numbers that are known so
pub low_difference : (t s n w : ℕ) → t < 2 ^ 62 → s < 2 ^ 63 → s % 2 ^ 61 ≡ w % 2 ^ 61 → t % 2 ^ 61 ≡ n % 2 ^ 61
    → ((t + (2 ^ 63 + 3 * 2 ^ 52) - s) % 2 ^ 61 + w) % 2 ^ 61 ≡ (n + 3 * 2 ^ 52) % 2 ^ 61
low_difference t s n w f g e h =
    let a = t + (2 ^ 63 + 3 * 2 ^ 52) - s in
    let i : (a % 2 ^ 61 + w) % 2 ^ 61 ≡ (a % 2 ^ 61 + s) % 2 ^ 61 = like (a % 2 ^ 61) w s (sym e) in
    let j : (a % 2 ^ 61 + s) % 2 ^ 61 ≡ (a + s) % 2 ^ 61 = mod-add-mod a (2 ^ 61) s in
    let k : a + s ≡ t + (2 ^ 63 + 3 * 2 ^ 52) = omega arith in
    let l : (t + (2 ^ 63 + 3 * 2 ^ 52)) % 2 ^ 61 ≡ (3 * 2 ^ 52 + t) % 2 ^ 61 = wrapped t in
    let m : (3 * 2 ^ 52 + t) % 2 ^ 61 ≡ (3 * 2 ^ 52 + n) % 2 ^ 61 = like (3 * 2 ^ 52) t n h in
    let o : 3 * 2 ^ 52 + n ≡ n + 3 * 2 ^ 52 = omega arith in
    i ∙ j ∙ ap (λ (x : ℕ). x % 2 ^ 61) k ∙ l ∙ m ∙ ap (λ (x : ℕ). x % 2 ^ 61) o

-- between numbers that are near to each other it is the difference itself
pub exact : (n s d : ℕ) → d < 6 * 2 ^ 52 → Near n s → (d + s) % 2 ^ 61 ≡ (n + 3 * 2 ^ 52) % 2 ^ 61 → d + s ≡ n + 3 * 2 ^ 52
exact n s d a c e = omega arith
