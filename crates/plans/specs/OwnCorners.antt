-- That a decision of the schedule comes from the model's own values at a child's eight corners, with no "needed, or else 0" left.
use Rattle.std.specs.Prelude.{ℕ, ◌<◌, ◌≡◌, true, map}
use Rattle.geometry.specs.Values.{at}
use Rattle.grid.specs.declared.Verdict.{Verdict}
use Rattle.grid.specs.Blocks.{cube}
use Rattle.grid.specs.Boxes.{active, node_box}
use Rattle.grid.specs.Corners.{corner_point, octet}
use Rattle.input.specs.declared.Input.{Input}
use Rattle.schedule.specs.Schedule.{decision}
use Rattle.plans.specs.Plan.{box_of, decide_by, value_of, plan_of}

-- what becomes of child c of node v by the model's values at its corners, in octet order (rules G8, G10 and G13)
abbrev pub own_verdict : Input → (v c : ℕ) → Verdict
own_verdict i v c =
    let g = i.grid in
    decide_by i.band (box_of g v c) (map (λ q. at (value_of i.model) (corner_point (node_box g v) g.inner q)) (octet g.inner c))

-- the schedule decides each active child by that (rules G9 and S6)
abbrev pub OwnCorners : Input → Type 0
OwnCorners i = (v c : ℕ) → c < cube i.grid.inner → active i.grid v c ≡ true → decision (plan_of i) v c ≡ own_verdict i v c
