-- Lane 3 of the row is the point.
use Rattle.std.proofs.Common.{List, Float, get_or, ap, ◌∙◌, rules}
use Rattle.geometry.specs.Values.{vec3}
use Rattle.model_vectors.proofs.Laid.{in_row}
use Rattle.model_vectors.proofs.compare.row_value.Goals as goal

pub returns : goal.returns
returns c =
    ap (λ (row : List Float). get_or row 3 _) c.evaluate_row_into.ensures.results
    ∙ in_row c.args.model.now _ _ c.args.p _ (search rules) (λ i. vec3 (c.around.ensures i) (c.around-2.ensures i) (c.around-3.ensures i))
