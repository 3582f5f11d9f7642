-- `texts::jisampode_list_job` meets its contract, by the calls that it makes.
use mathlib.Core.Path.{ap, ◌∙◌}
use Rattle.field_host.specs.Answers.{listing_number, listing_length}
use Rattle.field_host.proofs.texts.jisampode_list_job.Goals as goal

pub returns : goal.returns
returns c =
    let a = c.args in
    let listed = c.list_job.ensures in
    let put = c.put_length.ensures in record { answer = put.answer ∙ ap listing_number listed.answer; out = listed.out; written = put.written ∙ ap (listing_length a.written.now) listed.answer }
