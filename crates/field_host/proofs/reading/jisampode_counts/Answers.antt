-- `reading::jisampode_counts` meets its contract.
use mathlib.Core.Path.{refl, sym, ap, ◌∙◌}
use borrow.Author.Tests.{ne_eqb}
use Rattle.field_host.specs.Hosted.{counts_list}
use Rattle.field_host.proofs.reading.jisampode_counts.Goals as goal

pub returns-then-number-eq0 : goal.returns-then-number-eq0
returns-then-number-eq0 c =
    let number = c.words_number-number.ensures in record { answer = number; counts = rw (sym number ∙ c.if-number-eq0.true) (ap counts_list c.counts_given-c.ensures) }

pub returns-else-number-eq0 : goal.returns-else-number-eq0
returns-else-number-eq0 c =
    let number = c.words_number-number.ensures in record { answer = number; counts = rw (ne_eqb _ _ (λ zero. c.if-number-eq0.false (number ∙ zero))) refl }
