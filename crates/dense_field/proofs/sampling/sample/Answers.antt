-- A model in order has its own values.
use Rattle.std.proofs.Common.{◌∙◌}
use Rattle.dense_field.proofs.SampleLaws.{passed, places_sampled}
use Rattle.dense_field.proofs.sampling.sample.Goals as goal

pub returns-clause-values : goal.returns-clause-values
returns-clause-values c =
    let a = c.args in
    let e = c.in_ok-tested.ensures.answer in
    rw (← e) (c.sample_places.ensures ∙ places_sampled a.model.now a.origin a.cell a.n (passed _ _ _ _ _ e))
