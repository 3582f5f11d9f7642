-- `three_numbers` meets its contract: a law for each byte that may be off, and one for a whole row.
use Rattle.std.proofs.Common.{sym, ◌∙◌}
use Rattle.vectors.proofs.Reading.{row_short, row_first, row_second, row_third, row_whole}
use Rattle.vectors.proofs.numbers.three_numbers.Goals as goal
use Rattle.vectors.proofs.numbers.three_numbers.Goals.{then-row-ne32-via-then-row-ne32, then-row-ne32-via-else-row-ne32+then-row-ne32-2, then-row-ne32-via-else-row-ne32+else-row-ne32-2+then-row-ne10}

pub returns-in_err-row : goal.returns-in_err-row
returns-in_err-row c = c.from_residual.ensures ∙ sym (row_short c.args.s.now c.args.at c.in_err-row.ensures)

pub returns-then-row-ne32 : goal.returns-then-row-ne32
returns-then-row-ne32 c =
    elim c.then-row-ne32.branch [
      | then-row-ne32-via-then-row-ne32 w ↦ sym (row_first _ _ _ c.in_ok-row.ensures w.if-row-ne32.true)
      | then-row-ne32-via-else-row-ne32+then-row-ne32-2 w ↦ sym (row_second _ _ _ c.in_ok-row.ensures w.if-row-ne32-2.true)
      | then-row-ne32-via-else-row-ne32+else-row-ne32-2+then-row-ne10 w ↦ sym (row_third _ _ _ c.in_ok-row.ensures w.if-row-ne10.true)
    ]

pub returns-in_err-hex16 : goal.returns-in_err-hex16
returns-in_err-hex16 c =
    c.from_residual-in_err-hex16.ensures
    ∙ sym (row_whole _ _ _ c.in_ok-row.ensures c.if-row-ne32.false c.if-row-ne32-2.false c.if-row-ne10.false ∙ rw (sym c.in_err-hex16.ensures))

pub returns-in_err-hex16-2 : goal.returns-in_err-hex16-2
returns-in_err-hex16-2 c =
    c.from_residual-in_err-hex16-2.ensures
    ∙ sym (row_whole _ _ _ c.in_ok-row.ensures c.if-row-ne32.false c.if-row-ne32-2.false c.if-row-ne10.false ∙ rw (sym c.in_ok-hex16.ensures, sym c.in_err-hex16-2.ensures))

pub returns-in_err-hex16-3 : goal.returns-in_err-hex16-3
returns-in_err-hex16-3 c =
    c.from_residual-in_err-hex16-3.ensures
    ∙ sym (row_whole _ _ _ c.in_ok-row.ensures c.if-row-ne32.false c.if-row-ne32-2.false c.if-row-ne10.false
    ∙ rw (sym c.in_ok-hex16.ensures, sym c.in_ok-hex16-2.ensures, sym c.in_err-hex16-3.ensures))

pub returns : goal.returns
returns c =
    sym (row_whole _ _ _ c.in_ok-row.ensures c.if-row-ne32.false c.if-row-ne32-2.false c.if-row-ne10.false
    ∙ rw (sym c.in_ok-hex16.ensures, sym c.in_ok-hex16-2.ensures, sym c.in_ok-hex16-3.ensures))
