-- What the code's answers say of a text.
use Rattle.std.specs.Prelude.{ℕ, ◌≤◌, List, Option, Some, None, Result, take}
use Rattle.forms.specs.Forms.{fields}
use Rattle.input.specs.declared.Band.{Band}
use Rattle.grid.specs.declared.Grid.{Grid}
use Rattle.job_text.specs.declared.parts.PartLine as declared
use Rattle.job_text.specs.declared.Job.{Job}
use Rattle.job_text.specs.declared.OffForm.{OffForm}
use Rattle.job_text.specs.Lines.{limit, PartKind, const, sphere, plane, min, max, add, sub, neg, part_form}
use Rattle.job_text.specs.Parts.{word, PartLine, none, part}
use Rattle.job_text.specs.Reading.{Parts, off_at, parts, job_with, read_job, off_reading}

-- the numbers with which the part of an operation names its inputs fit 32 bits
unfoldable pub FitsWords : PartKind → List ℕ → Type 0
FitsWords const xs = Unit
FitsWords sphere xs = Unit
FitsWords plane xs = Unit
FitsWords min xs = (word xs 0 ≤ limit) × (word xs 1 ≤ limit)
FitsWords max xs = (word xs 0 ≤ limit) × (word xs 1 ≤ limit)
FitsWords add xs = (word xs 0 ≤ limit) × (word xs 1 ≤ limit)
FitsWords sub xs = (word xs 0 ≤ limit) × (word xs 1 ≤ limit)
FitsWords neg xs = word xs 0 ≤ limit

-- no part line, or one with as many numbers as its form has
abbrev pub part_in : Option declared.PartLine → PartLine
part_in None = none
part_in (Some l) = part (record { kind = l.kind; numbers = take (fields (part_form l.kind)) l.numbers }) l.rest.now

-- what part lines are read as, after the lines of a grid and a band
unfoldable pub model_reading : Grid → Band → Parts → Result Job OffForm
model_reading g b (off_at n) = off_reading n
model_reading g b (parts ss) = read_job (job_with g b ss)
