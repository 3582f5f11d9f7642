-- What padding, threshold and smoothing answer, by cause 9 (rule D12).
use Rattle.std.specs.Prelude.{ℕ, [], ◌∷◌, Result}
use Rattle.causes.specs.declared.Cause.{Cause}
use Rattle.causes.specs.declared.Cause.TheVariants.{Dimensions}
use Rattle.causes.specs.First.{refused_if, first_of}
use Rattle.geometry.specs.declared.Vec3i.{Vec3i}
use Rattle.dense_field.specs.Field.{values_refused}
use Rattle.dense_field.specs.Smoothing.{smooth_refused}

-- 9, else done (rule D12)
unfoldable pub outcome_of : Vec3i → (len : ℕ) → Result (Unit {0}) Cause
outcome_of n len = first_of (refused_if (values_refused n len) Dimensions ∷ []) tt

-- the same of smoothing, with its scratch (rule D12)
unfoldable pub smooth_outcome : Vec3i → (values scratch : ℕ) → Result (Unit {0}) Cause
smooth_outcome n values scratch = first_of (refused_if (smooth_refused n values scratch) Dimensions ∷ []) tt
