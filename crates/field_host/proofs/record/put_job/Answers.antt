-- The four arrays are a job's.
use Rattle.field_host.specs.Carried.{carried_of, encoded}
use Rattle.field_host.proofs.record.put_job.Goals as goal

pub returns : goal.returns
unfolding encoded
returns c =
    let words = c.put_words.ensures in
    let settings = c.put_settings.ensures in
    let laid = c.lay_out.ensures.laid in
    λ i. carried_of (words i) (laid i).words (settings i) (laid i).numbers
