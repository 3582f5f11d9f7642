-- Counts of comparisons: at points 0, laid out 1, in rows 2, refusals 3; and of the lines that are off their form.
use Rattle.std.specs.Prelude.{ℕ, Bool, Option, Some, None, List}
use Rattle.vectors.specs.Tally.{plus, counted, wrong_if}
use Rattle.model.specs.Model.{evaluation_of}
use Rattle.model_vectors.specs.declared.case.Case.{Case}
use Rattle.model_vectors.specs.declared.line.Line.{Line}
use Rattle.model_vectors.specs.declared.line.Line.TheVariants.{Point, Component, Value, Refused}
use Rattle.model_vectors.specs.declared.Comparison.{Comparison}
use Rattle.model_vectors.specs.declared.Comparison.TheVariants.{Points, Flat, Rows, Refusals}
use Rattle.model_vectors.specs.Case.{started, with_part}
use Rattle.model_vectors.specs.Compare.{same_bits, value_right, refused_right, any_value}

abbrev pub number_of : Comparison → ℕ
number_of Points = 0
number_of Flat = 1
number_of Rows = 2
number_of Refusals = 3

-- a stored value is compared at the point, laid out, and in rows
abbrev pub compared_value : List ℕ → List ℕ
compared_value counts = counted 2 (counted 1 (counted 0 counts))

abbrev pub point_right : Case → ℕ → Bool
point_right c stored = value_right (evaluation_of c.model c.point.x c.point.y c.point.z) stored

abbrev pub parts_right : Case → ℕ → Bool
parts_right c stored = same_bits (any_value c.model c.point.x c.point.y c.point.z) stored

-- the laid out model and the rows have the value that a model of any contents has at the point
abbrev pub value_wrong : Case → ℕ → List ℕ → List ℕ
value_wrong c stored counts =
    wrong_if (parts_right c stored) 2 (wrong_if (parts_right c stored) 1 (wrong_if (point_right c stored) 0 counts))

abbrev pub refusal_right : Case → Bool
refusal_right c = refused_right (evaluation_of c.model c.point.x c.point.y c.point.z)

-- a case, and the counts, after one line more; None is a line off its form
abbrev pub case_after : Option Line → Case → Case
case_after (Some (Point p)) c = started p
case_after (Some (Component part)) c = with_part c part
case_after (Some (Value stored)) c = c
case_after (Some Refused) c = c
case_after None c = c

abbrev pub cases_after : Option Line → List ℕ → List ℕ
cases_after (Some (Point p)) counts = counts
cases_after (Some (Component part)) counts = counts
cases_after (Some (Value stored)) counts = compared_value counts
cases_after (Some Refused) counts = counted 3 counts
cases_after None counts = counts

abbrev pub wrong_after : Option Line → Case → List ℕ → List ℕ
wrong_after (Some (Point p)) c counts = counts
wrong_after (Some (Component part)) c counts = counts
wrong_after (Some (Value stored)) c counts = value_wrong c stored counts
wrong_after (Some Refused) c counts = wrong_if (refusal_right c) 3 counts
wrong_after None c counts = counts

abbrev pub off_after : Option Line → ℕ → ℕ
off_after (Some line) count = count
off_after None count = plus count 1
