-- `other_root` meets its contract: each class of patterns has its own law.
use mathlib.Core.Path.{◌≡◌, sym, ap, ◌∙◌}
use mathlib.Core.Logic.{◌⊎◌, ⊎_elim}
use Prim.Native.Nat.{ℕ, ◌*◌, ◌^◌, ◌<◌}
use native.Mathlib.Omega.{arith}
use borrow.Author.Rules.{rules}
use lib.Ieee.{of_bits, binary64}
use Rattle.root.specs.Root.{square_root}
use Rattle.root.proofs.BitsRoots.{zero_by_zero, root_of_zero, root_of_minus_zero, root_of_infinity, root_of_subnormal, root_of_past_infinity}
use Rattle.root.proofs.bits.other_root.Goals as goal

-- the zeros and +infinity are their own roots
own : (b : ℕ) → (b ≡ 0) ⊎ ((b ≡ 2047 * 2 ^ 52) ⊎ (b ≡ 2 ^ 63)) → of_bits binary64 b ≡ square_root (of_bits binary64 b)
own b = ⊎_elim
    (λ e. rw e (sym root_of_zero))
    (⊎_elim (λ e. rw e (sym root_of_infinity)) (λ e. rw e (sym root_of_minus_zero)))

pub returns-in-0 : goal.returns-in-0
returns-in-0 c = c.requires.reads ∙ own _ c.in-0.is ∙ sym (ap square_root c.requires.reads)

pub returns-in-1-to-4503599627370495 : goal.returns-in-1-to-4503599627370495
returns-in-1-to-4503599627370495 c =
    let some : c.args.pattern ≡ 0 → ⊥ = search rules in
    c.subnormal_root.ensures ∙ sym (ap square_root c.requires.reads ∙ root_of_subnormal _ (omega arith) (omega arith))

pub returns-in_default : goal.returns-in_default
returns-in_default c =
    let some : c.args.pattern ≡ 0 → ⊥ = search rules in
    let finite : c.args.pattern ≡ 2047 * 2 ^ 52 → ⊥ = search rules in
    let signed : c.args.pattern ≡ 2 ^ 63 → ⊥ = search rules in
    let past : 2047 * 2 ^ 52 < c.args.pattern = ⊎_elim (λ l. omega arith) (λ l. omega arith) c.requires.outside in
    zero_by_zero ∙ sym (ap square_root c.requires.reads ∙ root_of_past_infinity c.args.pattern past (omega arith) signed)
