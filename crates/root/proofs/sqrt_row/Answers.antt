-- `sqrt_row` meets its contract: at each turn the elements before `at` are roots, and the others are as they were.
use mathlib.Core.Path.{◌≡◌, ap, ◌∙◌}
use mathlib.Core.List.{List, map}
use Prim.Native.Nat.{ℕ, ◌+◌, ◌-◌, ◌≤◌}
use native.Mathlib.Omega.{arith}
use borrow.Rule.Slice.PartMut.{put_mid}
use lib.Ieee.{Float}
use lib.ListN.{take, drop}
use Rattle.root.specs.Root.{square_root}
use Rattle.root.proofs.RowLaws.{map_first, map_first_part, map_first_all}
use Rattle.root.proofs.sqrt_row.Goals as goal

-- the part up to `end` becomes roots too
joined : (at end : ℕ) (l xs part : List Float) → at ≤ end → xs ≡ map_first square_root at l → part ≡ map square_root (take (end - at) (drop at xs))
    → put_mid at (end - at) xs part ≡ map_first square_root end l
joined at end l xs part h e p =
    ap (put_mid at (end - at) xs) p
    ∙ ap (λ (x : List Float). put_mid at (end - at) x (map square_root (take (end - at) (drop at x)))) e
    ∙ map_first_part square_root at (end - at) l
    ∙ ap (λ (k : ℕ). map_first square_root k l) (let past : at + (end - at) ≡ end = omega arith in past)

pub loop-at-preserved : goal.loop-at-preserved
loop-at-preserved c =
    let whole : c.min-end.result ≡ c.loop-at.at + 64 = omega arith in
    joined _ _ _ _ _ (omega arith) c.loop-at.invariant c.roots.ensures ∙ ap (λ (k : ℕ). map_first square_root k c.args.xs.now) whole

pub returns-2 : goal.returns-2
returns-2 c = joined _ _ _ _ _ (omega arith) c.loop-at.invariant c.roots.ensures ∙ map_first_all square_root c.min-end.result c.args.xs.now (omega arith)
