-- Dimensions that are not refused have an area that fits.
use Rattle.std.proofs.Common.{sym, ◌∙◌, arith}
use Rattle.geometry.proofs.Grid.{accepted, area_le}
use Rattle.dense_field.proofs.counts.tested.Goals as goal

pub overflow_mul-n : goal.overflow_mul-n
overflow_mul-n c = omega (arith, area_le (accepted _ _ _ (sym c.dimensions_refused.ensures ∙ c.if-dimensions_refused.false)))
