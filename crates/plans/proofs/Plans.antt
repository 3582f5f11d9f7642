-- What holds of a grid's plan: it is lawful, and its active children are the grid's.
use Prim.Native.Nat.{◌<◌}
use mathlib.Core.Path.{◌≡◌, refl, sym}
use mathlib.Core.List.{List, map}
use native.Mathlib.Nat.{pos_of_ne-zero}
use lib.Ieee.{Float}
use Rattle.geometry.specs.declared.BoundingBox.{BoundingBox}
use native.Mathlib.Omega.{arith}
use Rattle.grid.specs.declared.Grid.{Grid}
use Rattle.grid.specs.declared.Verdict.{Verdict}
use Rattle.grid.specs.Nodes.{nodes_of}
use Rattle.grid.specs.Boxes.{active}
use Rattle.grid.specs.Counting.{active_in, active_of, counts_of}
use Rattle.grid.specs.Corners as corners
use Rattle.grid.proofs.Needing.{needed_below}
use Rattle.grid.proofs.Verdicts.{verdict_kind}
use Rattle.input.specs.declared.Band.{Band}
use Rattle.schedule.specs.Totals.{count_all, active_all}
use Rattle.schedule.specs.Counts.{grid_counts}
use Rattle.schedule.specs.PlanLaws.{PlanLaws}
use Rattle.plans.specs.Plan.{box_of, plan_with, decide_by}

-- a needed corner is one of the node's, and a constant's kind is not 0
pub plan_laws_lem : (g : Grid) (band : Band) (value : Float → Float → Float → Float) → 0 < g.inner → PlanLaws (plan_with g (decide_by band) value)
unfolding plan_with
plan_laws_lem g band value above = record {
  inside = λ v i below needed. needed_below g.inner (active g v) i above needed;
  constant_kind = λ v c read k x decided.
      let kind = verdict_kind band.min band.max (box_of g v c) (map read (corners.octet g.inner c)) decided in
      rw kind (omega arith);
}

-- its active children are the grid's
pub active_all_lem : (g : Grid) (decide : BoundingBox → List Float → Verdict) (value : Float → Float → Float → Float)
    → active_all (plan_with g decide value) ≡ active_of g
unfolding count_all plan_with active_of active_in
active_all_lem g decide value = refl

-- so its counts are the grid's
pub counts_same : (g : Grid) (decide : BoundingBox → List Float → Verdict) (value : Float → Float → Float → Float)
    → counts_of g ≡ grid_counts (plan_with g decide value)
unfolding plan_with
counts_same g decide value = λ t. record { nodes = nodes_of g; active = sym (active_all_lem g decide value) t }
