-- What a trial says where it has no objections.
use mathlib.Core.Path.{◌≡◌, sym, ap, ◌∙◌, subst}
use Prim.Native.Nat.{ℕ, ◌+◌, ◌-◌, ◌*◌, ◌/◌, ◌%◌, ◌^◌, ◌≤◌, ◌<◌}
use native.Mathlib.Omega.{arith}
use lib.Ieee.{Float, of_bits, binary64}
use Rattle.root.specs.Inner.Reduced.{scaled}
use Rattle.root.specs.Inner.Trials.{Near, Tried}
use Rattle.root.specs.Nearest.{nearest_root}
use Rattle.root.specs.Root.{square_root}
use Rattle.root.proofs.BitsRoots.{normal_root}
use Rattle.root.proofs.LowDigits.{low_top, exact}
use Rattle.root.proofs.NearestLaws.{nearest_is}
use Rattle.root.proofs.Neighbours.{Steps, stepped_nearest}

-- the digits: d is the difference that the trial knows, and u and w are its steps from q
pub tried_digits : (p q d u w : ℕ) → 2 ^ 52 ≤ q → (d + q * q) % 2 ^ 61 ≡ (scaled p + 3 * 2 ^ 52) % 2 ^ 61 → d < 6 * 2 ^ 52 → Near (scaled p) (q * q)
    → Steps q d u w → q + u - w ≡ nearest_root (scaled p)
tried_digits p q d u w l e f near s =
    let t = low_top p in
    nearest_is (scaled p) (q + u - w) (omega (arith, t.least)) (omega (arith, t.most))
    (stepped_nearest (scaled p) q d (exact (scaled p) (q * q) d f near e) l u w s (omega (arith, t.least)) f)

-- the bits: m is the mark of objections, and h the root's exponent
pub record Unmarked (b s h : ℕ) : Type 0 where
  pub least : 2 ^ 52 ≤ b
  pub most : b < 2047 * 2 ^ 52
  pub half : h ≡ (b / 2 ^ 52 + 1021) / 2
  pub digits : s ≡ nearest_root (scaled b)

unmarked : (n m : ℕ) → n + m * 2 ^ 63 < 2 ^ 63 → (m ≡ 0) × (n ≡ n + m * 2 ^ 63)
unmarked n m l = (omega arith, omega arith)

module _ (x : Float) (b s h m : ℕ) (own : 2 ^ 52 ≤ b → x ≡ of_bits binary64 b) (fits : h * 2 ^ 52 + s ≤ 2047 * 2 ^ 52)
    (sure : m ≡ 0 → Unmarked b s h) where
  abbrev Says : ℕ → Type 0
  Says t = (t ≤ 2047 * 2 ^ 52) × (of_bits binary64 t ≡ square_root x)

  says : h * 2 ^ 52 + s + m * 2 ^ 63 < 2 ^ 63 → Says (h * 2 ^ 52 + s + m * 2 ^ 63)
  says l =
      let z = unmarked (h * 2 ^ 52 + s) m l in
      let n = sure z.0 in
      subst Says z.1 (fits, normal_root b s h n.least n.most n.half n.digits ∙ ap square_root (sym (own n.least)))

  pub tried_bits : Tried x (h * 2 ^ 52 + s + m * 2 ^ 63)
  tried_bits = record { number = λ l. (says l).0; root = λ l. (says l).1 }
