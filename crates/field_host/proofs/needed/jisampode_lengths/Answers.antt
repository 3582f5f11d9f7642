-- An input that the longest slices do not refuse has node counts.
use Rattle.std.proofs.Common.{sym, ◌∙◌}
use Rattle.input.proofs.Clear.{clear}
use Rattle.field_host.specs.Needed.{longest}
use Rattle.field_host.proofs.needed.jisampode_lengths.Goals as goal

pub invariant_of-grid : goal.invariant_of-grid
invariant_of-grid c =
    let none = clear c.input_given-input.result longest (sym c.any_refusal.ensures ∙ c.in_default.is) in
    record { two = none.two; five = none.five }
