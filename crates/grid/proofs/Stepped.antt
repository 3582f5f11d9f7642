-- A point of a leaf and a corner of a node, from the steps that a row computes once.
use Rattle.std.proofs.Common.{◌≡◌, ℕ, ◌+◌, ap}
use lib.Ieee.{Float}
use Rattle.geometry.specs.declared.Vec3.{Vec3}
use Rattle.geometry.specs.declared.BoundingBox.{BoundingBox}
use Rattle.geometry.specs.Index.{indices_of}
use Rattle.geometry.specs.Axis.{along, step_along}
use Rattle.grid.specs.Leaves.{leaf_point}
use Rattle.grid.specs.Corners.{corner_point}
use Rattle.grid.specs.Inner.Steps.{leaf_steps, stepped_point, corner_at}

pub leaf_stepped : (b : BoundingBox) (l p : ℕ) {steps : Vec3} → steps ≡ leaf_steps b l → stepped_point b.min steps (indices_of p l l) ≡ leaf_point b l p
unfolding along leaf_point leaf_steps stepped_point
leaf_stepped b l p e = ap (λ d. stepped_point b.min d (indices_of p l l)) e

pub corner_stepped : (b : BoundingBox) (n corner : ℕ) {step : Float} → step ≡ step_along b.min.x b.max.x n
    → corner_at b.min step (indices_of corner (n + 1) (n + 1)) ≡ corner_point b n corner
unfolding corner_point corner_at
corner_stepped b n corner e = ap (λ d. corner_at b.min d (indices_of corner (n + 1) (n + 1))) e
