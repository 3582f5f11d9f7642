-- `read_form` meets its contract. The invariant: with the numbers kept so far, what is left to read gives what the whole gives.
use Rattle.forms.proofs.FormTurns.{Kept}
use Rattle.forms.proofs.reading.read_form.Given as goal

abbrev pub invariant-loop-b : goal.invariant-loop-b
invariant-loop-b g l = Kept g.row.N l.limit l.text l.form l.rest l.b-index l.count l.numbers
