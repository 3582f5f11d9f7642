-- An answer as numbers: the cause of a refusal and 0 for none, 100 for a walk that is done, and what is left in place of `old` (rules C51,
-- C54 and W10).
use Rattle.std.specs.Prelude.{ℕ, List, [], ◌∷◌, Option, Some, None, Result, Ok, Err, Float}
use Rattle.causes.specs.declared.Cause.{Cause}
use Rattle.causes.specs.Number.{number_of}
use Rattle.geometry.specs.declared.Vec3.{Vec3}
use Rattle.geometry.specs.declared.Vec3i.{Vec3i}
use Rattle.geometry.specs.declared.BoundingBox.{BoundingBox}
use Rattle.dense_field.specs.declared.Step.{Step}
use Rattle.listing.specs.declared.Unlisted.{Unlisted}
use Rattle.listing.specs.Unlisted as unlisted

abbrev pub coordinates : Vec3 → List Float
coordinates p = p.x ∷ p.y ∷ p.z ∷ []

abbrev pub ends : BoundingBox → List Float
ends b = b.min.x ∷ b.min.y ∷ b.min.z ∷ b.max.x ∷ b.max.y ∷ b.max.z ∷ []

abbrev pub index_list : Vec3i → List ℕ
index_list c = c.i ∷ c.j ∷ c.k ∷ []

-- a call that may be refused
abbrev pub outcome_number : {A : Type 0} → Result A Cause → ℕ
outcome_number (Ok value) = 0
outcome_number (Err cause) = number_of cause

-- the counts that a point count leaves, or the old ones on a refusal (rule C54)
abbrev pub counts_left : List ℕ → Result Vec3i Cause → List ℕ
counts_left old (Ok n) = index_list n
counts_left old (Err cause) = old

-- a step of a walk: its answer, its cursor and what it found, as numbers (rule W10)
abbrev pub step_number : {A : Type 0} → Result (Option (Step A)) Cause → ℕ
step_number (Ok (Some step)) = 0
step_number (Ok None) = 100
step_number (Err cause) = number_of cause

abbrev pub step_cursor : {A : Type 0} → List ℕ → Result (Option (Step A)) Cause → List ℕ
step_cursor old (Ok (Some step)) = index_list step.next
step_cursor old (Ok None) = old
step_cursor old (Err cause) = old

abbrev pub step_left : {A : Type 0} → (A → List Float) → List Float → Result (Option (Step A)) Cause → List Float
step_left numbers old (Ok (Some step)) = numbers step.found
step_left numbers old (Ok None) = old
step_left numbers old (Err cause) = old

-- the count that a corner list leaves, or the old one on a refusal (rule C54)
abbrev pub corners_count : List ℕ → Result ℕ Cause → List ℕ
corners_count old (Ok n) = n ∷ []
corners_count old (Err cause) = old

-- a listing, and its length
unfoldable pub listing_number : Result ℕ Unlisted → ℕ
listing_number (Ok n) = 0
listing_number (Err why) = unlisted.number_of why

unfoldable pub listing_length : List ℕ → Result ℕ Unlisted → List ℕ
listing_length old (Ok n) = n ∷ []
listing_length old (Err why) = old
