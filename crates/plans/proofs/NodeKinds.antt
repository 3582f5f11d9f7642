-- The kinds of one node, in a slice whose kinds are as rule R8 wants them.
use mathlib.Core.Path.{◌≡◌, refl, ap, ◌∙◌}
use mathlib.Core.Bool.{Bool, not, ◌&&◌, ◌||◌}
use mathlib.Core.List.{List}
use Prim.Native.Nat.{ℕ, zero, suc, ◌+◌, ◌*◌, ◌≤◌, ◌<◌}
use native.Mathlib.Nat.{mul-le-mul_right}
use native.Mathlib.Omega.{arith}
use lib.Dec.{eqb}
use lib.ListN.{length, get_or, take, drop}
use lib.Seq.{get_or-take, get_or-drop}
use lib.Ieee.{Float}
use Rattle.lists.specs.Ranges.{any_below, among}
use Rattle.lists.proofs.Flags.{nonzero_eqb}
use Rattle.geometry.specs.declared.BoundingBox.{BoundingBox}
use Rattle.grid.specs.declared.Grid.{Grid}
use Rattle.grid.specs.declared.Verdict.{Verdict}
use Rattle.grid.specs.Blocks.{cube}
use Rattle.grid.specs.Nodes.{nodes_of}
use Rattle.grid.specs.Boxes.{active}
use Rattle.grid.specs.Corners as corners
use Rattle.grid.specs.CornerList as kinds
use Rattle.schedule.specs.Opened.{ActiveKinds}
use Rattle.schedule.proofs.Activity.{active_at_lem}
use Rattle.plans.specs.Plan.{plan_with}

-- ---- tests that agree on a node's children need the same corners

any_cong : (n : ℕ) (test other : ℕ → Bool) → ((c : ℕ) → c < n → test c ≡ other c) → any_below n test ≡ any_below n other
unfolding any_below
any_cong zero test other same = refl
any_cong (suc n) test other same =
    let rest : any_below n test ≡ any_below n other = any_cong n test other (λ c h. same c (omega arith)) in
    let last : test n ≡ other n = same n (omega arith) in
    λ t. rest t || last t

pub needed_cong : (n : ℕ) (act other : ℕ → Bool) → ((c : ℕ) → c < cube n → act c ≡ other c) → (corner : ℕ)
    → corners.needed n act corner ≡ corners.needed n other corner
unfolding corners.needed
needed_cong n act other same corner =
    any_cong (cube n) (λ c. act c && among corner (corners.octet n c)) (λ c. other c && among corner (corners.octet n c))
    (λ c h. ap (λ (b : Bool). b && among corner (corners.octet n c)) (same c h))

-- ---- the kinds of one node

module _ (g : Grid) (decide : BoundingBox → List Float → Verdict) (value : Float → Float → Float → Float) (l : List ℕ)
    (right : ActiveKinds (plan_with g decide value) l)
    (long : nodes_of g * cube g.inner ≤ length l) (v : ℕ) (below : v < nodes_of g) {first d : ℕ} (from : first ≡ v * cube g.inner)
    (size : d ≡ cube g.inner) where
  -- a kind of the part is nonzero exactly where the child is active
  pub part_active : (c : ℕ) → c < cube g.inner → kinds.nonzero_at (take d (drop first l)) c ≡ active g v c
  unfolding kinds.nonzero_at plan_with
  part_active c h =
      let n : ℕ = cube g.inner in
      let inside : v * n + c < nodes_of g * n = omega (arith, mul-le-mul_right n below) in
      let read : get_or (take d (drop first l)) c 0 ≡ get_or l (v * n + c) 0 =
      get_or-take d (drop first l) c 0 (omega arith) ∙ get_or-drop first l c 0 ∙ ap (λ k. get_or l (k + c) 0) from in
      ap (λ k. not (eqb k 0)) read ∙ nonzero_eqb (get_or l (v * n + c) 0) ∙ right (v * n + c) (omega arith) ∙ active_at_lem (plan_with g decide value) v c below h

  -- so a corner is needed by the part exactly where it is by the plan
  pub part_needed : (corner : ℕ) → corners.needed g.inner (kinds.nonzero_at (take d (drop first l))) corner ≡ (plan_with g decide value).needed v corner
  unfolding plan_with
  part_needed corner = needed_cong g.inner _ (active g v) part_active corner
