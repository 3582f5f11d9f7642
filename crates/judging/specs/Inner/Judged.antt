-- The judgement of a record (rules R8 to R13), in the two parts that the code tests: the grid with its kinds, and how far the job is.
use Rattle.std.specs.Prelude.{ℕ, Bool, not, ◌&&◌, ◌||◌, List, ltb, eqb, length, get_or}
use Rattle.lists.specs.Sums.{sum_below, bit}
use Rattle.lists.specs.Flags.{nonzero}
use Rattle.schedule.specs.Plan.{Plan}
use Rattle.schedule.specs.declared.Cursor.{Cursor}
use Rattle.schedule.specs.Totals.{active_up_to, evaluations_bound}
use Rattle.schedule.specs.declared.Counts.{Counts}
use Rattle.schedule.specs.Counts.{counts_with, same_counts}
use Rattle.schedule.specs.Possible.{valid_cursor, inside_child}

-- too many leaves for the cursor, or none inside a child (rules R12 and R13)
abbrev pub wrong_leaves : Plan → Cursor → ℕ → Bool
wrong_leaves P a n = ltb (active_up_to P a) n || inside_child a && eqb n 0

-- counts and a cursor that no job of a plan has (rules R9 to R13)
abbrev pub wrong_progress : Plan → Counts → Cursor → Bool
wrong_progress P counts a =
    not (same_counts counts (counts_with P counts.leaves counts.evaluations)) || ltb (evaluations_bound P) counts.evaluations
    || not (valid_cursor P a) || ltb (active_up_to P a) counts.leaves || inside_child a && eqb counts.leaves 0

-- how many kinds are nonzero
abbrev pub count_nonzero : List ℕ → ℕ
count_nonzero kinds = sum_below (λ p. bit (nonzero (get_or kinds p 0))) (length kinds)
