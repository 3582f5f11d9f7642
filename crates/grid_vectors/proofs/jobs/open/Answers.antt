-- `open` asks for nodes and active children only where open accepts the job.
use Rattle.std.proofs.Common.{sym, ◌∙◌}
use Rattle.input.proofs.Clear.{clear}
use Rattle.grid_vectors.proofs.jobs.open.Goals as goal

pub invariant_of-grid : goal.invariant_of-grid
invariant_of-grid c =
    let none = clear _ _ (sym c.open_refusal.ensures ∙ c.in-Ok.is) in
    record { two = none.two; five = none.five }
