-- A record as a host carries it: 18 words, the model's codes and inputs, nine settings, the model's numbers (rules R14 and R15).
use Rattle.std.specs.Prelude.{ℕ, zero, suc, Bool, not, cond, ◌&&◌, List, [], ◌∷◌, map, replicate, eqb, ltb, get_or, Float, Option, Some, None}
use Rattle.float.specs.Zero.{plus_zero}
use Rattle.model.specs.Part.{part_in}
use Rattle.model.specs.Flat.{flat_of, layout_of}
use Rattle.input.specs.declared.Lengths.{Lengths}
use Rattle.input.specs.declared.Input.{Input}
use Rattle.schedule.specs.declared.Counts.{Counts}
use Rattle.schedule.specs.declared.Cursor.{Cursor}
use Rattle.schedule.specs.declared.Cursor.TheVariants.{End, Corner, Point}
use Rattle.schedule.specs.declared.Job.{Job}
use Rattle.field_host.specs.NoJob.{no_job}
use Rattle.field_host.specs.Given.{input_given}

-- the four arrays (rule R14)
pub record Carried : Type 0 where
  pub words : List ℕ
  pub parts : List ℕ
  pub settings : List Float
  pub reals : List Float

abbrev pub carried_of : (words parts : List ℕ) (settings reals : List Float) → Carried
carried_of words parts settings reals = record { words = words; parts = parts; settings = settings; reals = reals }

-- ---- a record written

-- a cursor's kind and its three places, 0 where it has none
unfoldable pub cursor_tag : Cursor → ℕ
cursor_tag End = 0
cursor_tag (Corner v i) = 1
cursor_tag (Point v c p) = 2

unfoldable pub cursor_node : Cursor → ℕ
cursor_node End = 0
cursor_node (Corner v i) = v
cursor_node (Point v c p) = v

unfoldable pub cursor_place : Cursor → ℕ
cursor_place End = 0
cursor_place (Corner v i) = i
cursor_place (Point v c p) = c

unfoldable pub cursor_point : Cursor → ℕ
cursor_point End = 0
cursor_point (Corner v i) = 0
cursor_point (Point v c p) = p

abbrev pub cursor_words : Cursor → List ℕ
cursor_words a = cursor_tag a ∷ cursor_node a ∷ cursor_place a ∷ cursor_point a ∷ []

-- a job's words: the flag 1; inner, leaf and the part count; five lengths; five counts; the cursor (rule R14)
abbrev pub words_of : Job → List ℕ
words_of j =
    1
    ∷ j.input.grid.inner ∷ j.input.grid.leaf ∷ j.input.model.count
    ∷ j.lengths.kinds ∷ j.lengths.numbers ∷ j.lengths.places ∷ j.lengths.store ∷ j.lengths.corners
    ∷ j.counts.grid.nodes ∷ j.counts.grid.active ∷ j.counts.leaves ∷ j.counts.sampled ∷ j.counts.evaluations
    ∷ cursor_words j.cursor

abbrev pub settings_of : Input → List Float
settings_of i =
    i.grid.bounds.min.x ∷ i.grid.bounds.min.y ∷ i.grid.bounds.min.z
    ∷ i.grid.bounds.max.x ∷ i.grid.bounds.max.y ∷ i.grid.bounds.max.z
    ∷ i.grid.cell ∷ i.band.min ∷ i.band.max
    ∷ []

-- a record in four arrays: those of its job, or every number 0 where it has none (rules R4 and R14)
unfoldable pub encoded : Option Job → Carried
encoded None = carried_of (replicate 18 0) (replicate 192 0) (replicate 9 plus_zero) (replicate 256 plus_zero)
encoded (Some j) =
    let l = layout_of (map part_in j.input.model.parts) in carried_of (words_of j) l.words (settings_of j.input) l.numbers

-- ---- arrays of any contents read

-- whether the words are those of some record: a flag of 0 or 1, block sizes and a count of 32 bits, one of three cursors (rule R15)
unfoldable pub fits : List ℕ → Bool
fits ws =
    ltb (get_or ws 0 0) 2 && ltb (get_or ws 1 0) 4294967296 && ltb (get_or ws 2 0) 4294967296 && ltb (get_or ws 3 0) 4294967296 && ltb (get_or ws 14 0) 3

-- whether the flag says that there is a job
abbrev pub flagged : List ℕ → Bool
flagged ws = not (eqb (get_or ws 0 0) 0)

abbrev pub lengths_given : List ℕ → Lengths
lengths_given ws =
    record { kinds = get_or ws 4 0; numbers = get_or ws 5 0; places = get_or ws 6 0; store = get_or ws 7 0; corners = get_or ws 8 0 }

abbrev pub counts_given : List ℕ → Counts
counts_given ws =
    record { grid = record { nodes = get_or ws 9 0; active = get_or ws 10 0 }; leaves = get_or ws 11 0; sampled = get_or ws 12 0; evaluations = get_or ws 13 0 }

unfoldable pub cursor_of : (tag node place point : ℕ) → Cursor
cursor_of zero node place point = End
cursor_of (suc zero) node place point = Corner node place
cursor_of (suc (suc t)) node place point = Point node place point

abbrev pub cursor_given : List ℕ → Cursor
cursor_given ws = cursor_of (get_or ws 14 0) (get_or ws 15 0) (get_or ws 16 0) (get_or ws 17 0)

abbrev pub job_given : Input → List ℕ → Job
job_given i ws = record { input = i; lengths = lengths_given ws; counts = counts_given ws; cursor = cursor_given ws }

-- the input in the arrays
abbrev pub input_in : Carried → Input
input_in c =
    input_given c.settings (get_or c.words 1 0) (get_or c.words 2 0) (flat_of c.parts c.reals) (get_or c.words 3 0)

-- The record that arrays of any contents read as: without a job by a flag of 0, whatever else they hold. Words that no record has read as a
-- job of the input of which every number is 0, which cause 1 refuses (rule R15).
unfoldable pub decoded : Carried → Option Job
decoded c = cond (flagged c.words) (Some (cond (fits c.words) (job_given (input_in c) c.words) no_job)) None
