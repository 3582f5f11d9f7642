-- A walk from its start: the answers of repeated steps, each from the cursor that the one before it hands on (rules W1 and W8).
use Rattle.std.specs.Prelude.{ℕ, zero, suc, List, Option, Some, None, Result, Ok, Err, Float}
use Rattle.causes.specs.declared.Cause.{Cause}
use Rattle.geometry.specs.declared.Vec3.{Vec3}
use Rattle.geometry.specs.declared.Vec3i.{Vec3i}
use Rattle.geometry.specs.declared.BoundingBox.{BoundingBox}
use Rattle.geometry.specs.Values.{vec3i}
use Rattle.dense_field.specs.declared.Step.{Step}
use Rattle.dense_field.specs.Walks.{point_step, cell_step, octet_step}

-- the cursor after a step: the next one; past the last one, and where the step is refused, the same (rules W1 and W8)
unfoldable pub after_step : {A : Type 0} → Result (Option (Step A)) Cause → Vec3i → Vec3i
after_step (Ok (Some step)) c = step.next
after_step (Ok None) c = c
after_step (Err cause) c = c

module _ {A : Type 0} (step : Vec3i → Result (Option (Step A)) Cause) where
  -- the cursor after p steps from the start
  unfoldable pub cursor_after : ℕ → Vec3i
  cursor_after zero = vec3i 0 0 0
  cursor_after (suc p) = after_step (step (cursor_after p)) (cursor_after p)

  -- the answer of step p, counted from 0
  abbrev pub trace : ℕ → Result (Option (Step A)) Cause
  trace p = step (cursor_after p)

-- the answer of step p of a walk over points (rule W1)
abbrev pub point_trace : BoundingBox → Vec3i → ℕ → Result (Option (Step Vec3)) Cause
point_trace b n = trace (point_step b n)

-- the same of a walk over cells (rule W1)
abbrev pub cell_trace : BoundingBox → Vec3i → ℕ → Result (Option (Step BoundingBox)) Cause
cell_trace b n = trace (cell_step b n)

-- the cell of an octet walker after p times `next` from its start (rule W8)
abbrev pub octet_cell : Vec3i → List Float → ℕ → Vec3i
octet_cell n vs = cursor_after (octet_step n vs)

-- what step p finds (rule W8)
abbrev pub octet_trace : Vec3i → List Float → ℕ → Result (Option (Step (List Float))) Cause
octet_trace n vs = trace (octet_step n vs)
