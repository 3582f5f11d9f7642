-- Words that fit have 32 bits where the input's numbers stand.
use Rattle.std.proofs.Common.{sym, ◌∙◌, arith}
use borrow.Author.Tests.{not-false}
use Rattle.field_host.proofs.Fitting.{inner_fits, leaf_fits, count_fits}
use Rattle.field_host.proofs.record.decode.Goals as goal

pub overflow_cast-words : goal.overflow_cast-words
overflow_cast-words c = omega (arith, inner_fits _ (sym c.words_fit.ensures ∙ not-false _ c.if-not-words_fit.false-raw))

pub overflow_cast-words-2 : goal.overflow_cast-words-2
overflow_cast-words-2 c = omega (arith, leaf_fits _ (sym c.words_fit.ensures ∙ not-false _ c.if-not-words_fit.false-raw))

pub overflow_cast-words-3 : goal.overflow_cast-words-3
overflow_cast-words-3 c = omega (arith, count_fits _ (sym c.words_fit.ensures ∙ not-false _ c.if-not-words_fit.false-raw))
