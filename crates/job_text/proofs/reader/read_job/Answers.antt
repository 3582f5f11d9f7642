-- `read_job` meets its contract: line after line, what is read is what the text's definition reads.
use Rattle.std.proofs.Common.{sym, ap, ◌∙◌, arith, Err}
use Rattle.forms.specs.Forms.{fields, is_field, piece_of}
use Rattle.job_text.specs.Reading.{reading_of}
use Rattle.job_text.proofs.OrOff.{passed_on}
use Rattle.job_text.proofs.PartTurns.{blocks_fit}
use Rattle.job_text.proofs.TextLines.{first_off, second_off, third_off, fourth_off, model_same, text_read}
use Rattle.job_text.proofs.reader.read_job.Goals as goal

pub read_line-requires : goal.read_line-requires
unfolding fields is_field piece_of
read_line-requires c = (omega arith, omega arith)

pub returns-in_err-bounds : goal.returns-in_err-bounds
unfolding reading_of
returns-in_err-bounds c =
    let e = c.in_err-bounds.ensures.off in
    passed_on _ c.from_residual.ensures.1 ∙ ap Err e.0 ∙ sym (ap reading_of (first_off _ (sym e.1)))

pub read_line-requires-2 : goal.read_line-requires-2
unfolding fields is_field piece_of
read_line-requires-2 c = (omega arith, omega arith)

pub returns-in_err-cell : goal.returns-in_err-cell
unfolding reading_of
returns-in_err-cell c =
    let e = c.in_err-cell.ensures.off in
    passed_on _ c.from_residual-in_err-cell.ensures.1 ∙ ap Err e.0
    ∙ sym (ap reading_of (second_off _ _ _ (sym c.in_ok-bounds.ensures.ok) (sym e.1)))

pub read_line-requires-3 : goal.read_line-requires-3
unfolding fields is_field piece_of
read_line-requires-3 c = (omega arith, omega arith)

pub returns-in_err-sizes : goal.returns-in_err-sizes
unfolding reading_of
returns-in_err-sizes c =
    let e = c.in_err-sizes.ensures.off in
    passed_on _ c.from_residual-in_err-sizes.ensures.1 ∙ ap Err e.0
    ∙ sym (ap reading_of (third_off _ _ _ (sym c.in_ok-bounds.ensures.ok) _ _ (sym c.in_ok-cell.ensures.ok) (sym e.1)))

pub read_line-requires-4 : goal.read_line-requires-4
unfolding fields is_field piece_of
read_line-requires-4 c = (omega arith, omega arith)

pub returns-in_err-limits : goal.returns-in_err-limits
unfolding reading_of
returns-in_err-limits c =
    let e = c.in_err-limits.ensures.off in
    passed_on _ c.from_residual-in_err-limits.ensures.1 ∙ ap Err e.0
    ∙ sym
    (ap reading_of
    (fourth_off _ _ _ (sym c.in_ok-bounds.ensures.ok) _ _ (sym c.in_ok-cell.ensures.ok) _ _ (sym c.in_ok-sizes.ensures.ok) (sym e.1)))

pub grid_of-grid-requires-clause-inner : goal.grid_of-grid-requires-clause-inner
grid_of-grid-requires-clause-inner c = (blocks_fit _ _ _ c.in_ok-sizes.ensures.ok).0

pub grid_of-grid-requires-clause-leaf : goal.grid_of-grid-requires-clause-leaf
grid_of-grid-requires-clause-leaf c = (blocks_fit _ _ _ c.in_ok-sizes.ensures.ok).1

pub returns : goal.returns
unfolding fields is_field piece_of
returns c =
    model_same _ c.read_model.ensures c.grid_of-grid.ensures c.band_of.ensures
    ∙ text_read
    _
    c.in_ok-bounds.bounds.numbers
    c.in_ok-cell.cell.numbers
    c.in_ok-sizes.sizes.numbers
    c.in_ok-limits.limits.numbers
    _ _ _ _ (sym c.in_ok-bounds.ensures.ok) (sym c.in_ok-cell.ensures.ok) (sym c.in_ok-sizes.ensures.ok) (sym c.in_ok-limits.ensures.ok)
