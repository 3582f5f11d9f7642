-- The arrays stand for what counts as the model's parts.
use Rattle.std.proofs.Common.{◌∙◌}
use Rattle.model_vectors.proofs.Laid.{flat_at}
use Rattle.model_vectors.proofs.compare.flat_value.Goals as goal

pub returns : goal.returns
returns c = c.evaluate_flat.ensures.answer ∙ flat_at c.args.model.now _ c.laid.ensures _ _ _
