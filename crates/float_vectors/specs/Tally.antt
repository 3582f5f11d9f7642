-- Counts of cases, one for each operation, and one for the lines that are off their form.
use Rattle.std.specs.Prelude.{ℕ, Option, Some, None, List, is_ok}
use Rattle.vectors.specs.Tally.{plus, counted, wrong_if}
use Rattle.float_vectors.specs.declared.case.Operation.{Operation}
use Rattle.float_vectors.specs.declared.case.Operation.TheVariants.{Sqrt, Floor, Ceil, Min, Max}
use Rattle.float_vectors.specs.declared.case.Verdict.{Verdict}

abbrev pub number_of : Operation → ℕ
number_of Sqrt = 0
number_of Floor = 1
number_of Ceil = 2
number_of Min = 3
number_of Max = 4

-- the counts of the cases, of the wrong ones and of the lines off their form, with one line more
abbrev pub cases_after : Option Verdict → List ℕ → List ℕ
cases_after None counts = counts
cases_after (Some v) counts = counted (number_of v.operation) counts

abbrev pub wrong_after : Option Verdict → List ℕ → List ℕ
wrong_after None counts = counts
wrong_after (Some v) counts = wrong_if (is_ok v.given) (number_of v.operation) counts

abbrev pub off_after : Option Verdict → ℕ → ℕ
off_after None count = plus count 1
off_after (Some v) count = count
