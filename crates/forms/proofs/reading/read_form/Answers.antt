-- `read_form` meets its contract.
use Rattle.std.proofs.Common.{ap, sym, ◌∙◌}
use Rattle.forms.specs.Answers.{line_in}
use Rattle.forms.proofs.FormTurns.{kept_first, kept_off, kept_room, kept_number, kept_byte, kept_line, kept_zeros}
use Rattle.forms.proofs.reading.read_form.Goals.{then-is_field, else-is_field}
use Rattle.forms.proofs.reading.read_form.Goals as goal

pub loop-b-init : goal.loop-b-init
loop-b-init g c = kept_first _ _ _ _

pub returns-in_err-front-clause-line : goal.returns-in_err-front-clause-line
returns-in_err-front-clause-line g c =
    ap (line_in _) c.from_residual.ensures
    ∙ kept_off c.loop-b-test.true _ c.from-piece.ensures c.loop-b.invariant (sym c.in_err-front.ensures)

pub bounds-numbers-count : goal.bounds-numbers-count
bounds-numbers-count g c =
    kept_room c.loop-b-test.true _ c.from-piece.ensures c.loop-b.invariant c.requires (sym c.if-is_field.ensures)

pub loop-b-preserved : goal.loop-b-preserved
loop-b-preserved g c = elim c.if-is_field.branch [
  | then-is_field w ↦
      rw (w.numbers-is, w.count-is)
      (kept_number c.loop-b-test.true _ c.from-piece.ensures c.loop-b.invariant _ _ (sym c.in_ok-front.ensures) c.requires
      (sym c.is_field.ensures ∙ w.if-is_field.true))
  | else-is_field w ↦
      rw (w.numbers-is, w.count-is)
      (kept_byte c.loop-b-test.true _ c.from-piece.ensures c.loop-b.invariant _ _ (sym c.in_ok-front.ensures)
      (sym c.is_field.ensures ∙ w.if-is_field.false))
]

pub returns-clause-line : goal.returns-clause-line
returns-clause-line g c = kept_line c.loop-b.auto.b-index-end c.loop-b-test.false c.loop-b.invariant

pub returns-clause-zeros : goal.returns-clause-zeros
returns-clause-zeros g c = kept_zeros c.loop-b.auto.b-index-end c.loop-b-test.false c.loop-b.invariant
