-- How long the five slices of a job have to be (rules S3 and R16).
use Rattle.std.specs.Prelude.{ℕ, List, [], ◌∷◌, Result, Ok, Err}
use Rattle.causes.specs.declared.Cause.{Cause}
use Rattle.grid.specs.declared.Grid.{Grid}
use Rattle.input.specs.declared.Lengths.{Lengths}
use Rattle.input.specs.Needed.{needed_lengths}
use Rattle.input.specs.Causes.{refusal_of}
use Rattle.input.specs.declared.Input.{Input}

abbrev pub length_list : Lengths → List ℕ
length_list l = l.kinds ∷ l.numbers ∷ l.places ∷ l.store ∷ l.corners ∷ []

-- the longest slices that there are
abbrev pub longest : Lengths
longest =
    record {
      kinds = 18446744073709551615;
      numbers = 18446744073709551615;
      places = 18446744073709551615;
      store = 18446744073709551615;
      corners = 18446744073709551615;
    }

-- the cause that an open on the longest slices meets (rule R16)
abbrev pub any_refusal : Input → Result Unit Cause
any_refusal i = refusal_of i longest

-- what the answer leaves: the lengths, or on a refusal the old numbers (rules R16 and C54)
unfoldable pub lengths_left : List ℕ → Result Unit Cause → Grid → List ℕ
lengths_left old (Ok u) g = length_list (needed_lengths g)
lengths_left old (Err cause) g = old
