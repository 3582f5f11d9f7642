-- The numbers that a job's lengths, counts and cursor are written as, and those that a call answers.
use Rattle.std.specs.Prelude.{ℕ, Bool, true, false, Result, List, [], ◌∷◌, ◌++◌}
use Rattle.causes.specs.declared.Cause.{Cause}
use Rattle.input.specs.declared.Lengths.{Lengths}
use Rattle.schedule.specs.declared.Counts.{Counts}
use Rattle.schedule.specs.declared.Cursor.{Cursor}
use Rattle.schedule.specs.declared.Cursor.TheVariants.{End, Corner, Point}
use Rattle.cases.specs.Answer.{flag_of, outcome_of}

abbrev pub length_numbers : Lengths → List ℕ
length_numbers l = l.kinds ∷ l.numbers ∷ l.places ∷ l.store ∷ l.corners ∷ []

abbrev pub count_numbers : Counts → List ℕ
count_numbers c = c.grid.nodes ∷ c.grid.active ∷ c.leaves ∷ c.sampled ∷ c.evaluations ∷ []

-- a cursor: 0 is the end, 1 a corner, 2 a point; and its place
abbrev pub cursor_numbers : Cursor → List ℕ
cursor_numbers End = 0 ∷ 0 ∷ 0 ∷ 0 ∷ []
cursor_numbers (Corner a b) = 1 ∷ a ∷ b ∷ 0 ∷ []
cursor_numbers (Point a b c) = 2 ∷ a ∷ b ∷ c ∷ []

abbrev pub is_end : Cursor → Bool
is_end End = true
is_end (Corner a b) = false
is_end (Point a b c) = false

-- what became of the call, the flag, the counts, whether the cursor is at the end, and the cursor
abbrev pub call_numbers : {A : Type 0} → Result A Cause → Bool → Counts → Cursor → List ℕ
call_numbers done opened counts cursor =
    outcome_of done ∷ flag_of opened ∷ [] ++ count_numbers counts ++ (flag_of (is_end cursor) ∷ []) ++ cursor_numbers cursor
