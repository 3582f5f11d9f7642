-- `reading::jisampode_cursor` meets its contract.
use mathlib.Core.Path.{refl, sym, ap, ◌∙◌}
use borrow.Author.Tests.{ne_eqb}
use Rattle.field_host.specs.Carried.{cursor_words}
use Rattle.field_host.proofs.reading.jisampode_cursor.Goals as goal

pub returns-then-number-eq0 : goal.returns-then-number-eq0
returns-then-number-eq0 c =
    let number = c.words_number-number.ensures in
    record { answer = number; cursor = rw (sym number ∙ c.if-number-eq0.true) (c.cursor_words.ensures ∙ ap cursor_words c.cursor_given.ensures) }

pub returns-else-number-eq0 : goal.returns-else-number-eq0
returns-else-number-eq0 c =
    let number = c.words_number-number.ensures in record { answer = number; cursor = rw (ne_eqb _ _ (λ zero. c.if-number-eq0.false (number ∙ zero))) refl }
