-- `reading::words_number` meets its contract: the flag first, then the words.
use mathlib.Core.Path.{refl, sym, ◌∙◌}
use borrow.Author.Tests.{eq-eqb, ne_eqb}
use Rattle.field_host.specs.Hosted.{words_number}
use Rattle.field_host.proofs.reading.words_number.Goals as goal

pub returns-then-words-eq0 : goal.returns-then-words-eq0
unfolding words_number
returns-then-words-eq0 c =
    rw (eq-eqb _ _ c.if-words-eq0.true) refl

pub returns-then-words_fit : goal.returns-then-words_fit
unfolding words_number
returns-then-words_fit c =
    rw (ne_eqb _ _ c.if-words-eq0.false, sym c.words_fit.ensures ∙ c.if-words_fit.true) refl

pub returns-else-words_fit : goal.returns-else-words_fit
unfolding words_number
returns-else-words_fit c =
    rw (ne_eqb _ _ c.if-words-eq0.false, sym c.words_fit.ensures ∙ c.if-words_fit.false) refl
