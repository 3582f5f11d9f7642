-- An active child needs all eight of its corners, so each of them holds the model's value when the child is decided.
use Prim.Native.Nat.{ℕ, suc, ◌<◌}
use mathlib.Core.Path.{◌≡◌, refl, ap, ap₂}
use mathlib.Core.List.{List, [], ◌∷◌, map}
use native.Mathlib.Omega.{arith}
use lib.ListN.{length, get_or}
use lib.Ieee.{Float}
use borrow.Author.Tests.{le-leb}
use Rattle.geometry.specs.Values.{at}
use Rattle.grid.specs.declared.Kind.{Kind}
use Rattle.grid.specs.declared.Verdict.TheVariants.{Constant}
use Rattle.grid.specs.Kinds.{kind_number}
use Rattle.grid.specs.Boxes.{active, node_box}
use Rattle.grid.specs.Corners.{corner_point, octet}
use Rattle.grid.proofs.Octets.{octet_length}
use Rattle.grid.proofs.Needing.{octet_needed}
use Rattle.grid.proofs.Verdicts.{verdict_kind}
use Rattle.input.specs.declared.Input.{Input}
use Rattle.schedule.specs.Schedule.{decision, corners_held, zeros}
use Rattle.plans.specs.Plan.{box_of, plan_with, decide_by, value_of, plan_of}
use Rattle.plans.specs.OwnCorners.{OwnCorners}

-- functions that agree on a list's elements map it to the same list
map_same : {A B : Type 0} (f g : A → B) (l : List A) (a : A) → ((q : ℕ) → q < length l → f (get_or l q a) ≡ g (get_or l q a)) → map f l ≡ map g l
map_same f g [] a same = refl
map_same f g (x ∷ l) a same = ap₂ ◌∷◌ (same 0 (omega arith)) (map_same f g l a (λ q h. same (suc q) (omega arith)))

pub own_corners : (i : Input) → OwnCorners i
unfolding plan_with
own_corners i v c hc on =
    let g = i.grid in
    ap (decide_by i.band (box_of g v c))
    (map_same (corners_held (plan_of i) v 0 zeros) (λ q. at (value_of i.model) (corner_point (node_box g v) g.inner q)) (octet g.inner c) 0
    (λ q h. rw (
      octet_needed g.inner (active g v) c q hc on (omega (arith, octet_length g.inner c)),
      le-leb 0 (get_or (octet g.inner c) q 0) (omega arith),
    ) refl))

-- a constant of the schedule has not the kind of a leaf
pub constant_not_leaf : (i : Input) (v c : ℕ) (k : Kind) (x : Float) → decision (plan_of i) v c ≡ Constant k x → kind_number k ≡ 2 → ⊥
unfolding plan_with
constant_not_leaf i v c k x is two =
    let kind = verdict_kind i.band.min i.band.max (box_of i.grid v c) (map (corners_held (plan_of i) v 0 zeros) (octet i.grid.inner c)) is in
    omega (arith, ap kind_number kind, two)
