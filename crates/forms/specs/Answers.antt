-- What the code's answers say of a text: nothing, or what stands at its front with the text after it.
use Rattle.std.specs.Prelude.{ℕ, Option, Some, None, take}
use Rattle.forms.specs.declared.reading.Front.{Front}
use Rattle.forms.specs.declared.reading.Line.{Line}
use Rattle.forms.specs.Fronts as fronts
use Rattle.forms.specs.Forms as forms

abbrev pub front_in : Option Front → fronts.Front
front_in None = fronts.off
front_in (Some f) = fronts.number f.value f.rest.now

-- of a line with so many numbers; those after them are not its own
abbrev pub line_in : {N : ℕ} (count : ℕ) → Option (Line N) → forms.Line
line_in count None = forms.off
line_in count (Some l) = forms.line (take count l.numbers) l.rest.now
