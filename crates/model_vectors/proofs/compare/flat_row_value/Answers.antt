-- The arrays stand for what counts as the model's parts, and lane 3 of the row is the point.
use Rattle.std.proofs.Common.{List, Float, get_or, ap, ◌∙◌, rules}
use Rattle.geometry.specs.Values.{vec3}
use Rattle.model_vectors.proofs.Laid.{in_row, flat_in_row}
use Rattle.model_vectors.proofs.compare.flat_row_value.Goals as goal

pub returns : goal.returns
returns c =
    let m = c.args.model.now in
    ap (λ (row : List Float). get_or row 3 _) (c.evaluate_flat_row_into.ensures.results ∙ flat_in_row m _ c.laid.ensures _ _)
    ∙ in_row m _ _ c.args.p _ (search rules) (λ i. vec3 (c.around.ensures i) (c.around-2.ensures i) (c.around-3.ensures i))
