-- What writing a job's listing answers and leaves in the lent bytes (rules T15 and T16): 7 without a job, 8 for an impossible record, "not
-- printable" for an unfinished job or a leaf's place outside the store, then 6 where the bytes are too few. A refusal writes nothing; what
-- lies past a listing is 0.
use Rattle.std.specs.Prelude.{Option, Some, None, ℕ, zero, suc, ◌+◌, ◌-◌, ◌*◌, Bool, true, false, cond, ◌&&◌, ◌||◌, not, List, ◌++◌, eqb, leb, length, get_or, replicate, Result, Ok, Err}
use Rattle.causes.specs.declared.Cause.TheVariants.{TooShort, NoJob, ImpossibleRecord}
use Rattle.schedule.specs.Memory.{Memory}
use Rattle.schedule.specs.Possible.{impossible}
use Rattle.schedule.specs.declared.Job.{Job}
use Rattle.schedule.specs.declared.Cursor.{Cursor}
use Rattle.schedule.specs.declared.Cursor.TheVariants.{End, Corner, Point}
use Rattle.plans.specs.Sparse.{sparse}
use Rattle.plans.specs.Plan.{plan_of}
use Rattle.listing.specs.declared.unlisted.Unlisted.{Unlisted}
use Rattle.listing.specs.declared.unlisted.Unlisted.TheVariants.{Refused, NotPrintable}
use Rattle.listing.specs.Listing.{listing}

-- ---- lent bytes

-- bytes at the front and 0 after them, where they fit; otherwise the lent bytes as they were (rule T15)
unfoldable pub put_bytes : List ℕ → List ℕ → List ℕ
put_bytes bs out = cond (leb (length bs) (length out)) (bs ++ replicate (length out - length bs) 0) out

-- the answer: how many bytes, or 6 (rule T15)
unfoldable pub put_answer : List ℕ → List ℕ → Result ℕ Unlisted
put_answer bs out = cond (leb (length bs) (length out)) (Ok (length bs)) (Err (Refused TooShort))

-- ---- a record's listing

-- whether a child of this kind is no leaf, or has its stretch inside a store of this size
unfoldable pub placed : (points size kind place : ℕ) → Bool
placed points size kind place = not (eqb kind 2) || leb ((place + 1) * points) size

-- whether all r children from place j on are
unfoldable pub all_placed : (points size : ℕ) (kinds places : List ℕ) (r j : ℕ) → Bool
all_placed points size kinds places zero j = true
all_placed points size kinds places (suc r) j =
    placed points size (get_or kinds j 0) (get_or places j 0) && all_placed points size kinds places r (suc j)

-- whether a cursor is at the end (rule S12)
abbrev pub at_end : Cursor → Bool
at_end End = true
at_end (Corner v i) = false
at_end (Point v c p) = false

-- whether a job is finished and all its leaves lie in the store (rule T16)
unfoldable pub printable : Job → Memory → Bool
printable j m =
    let P = plan_of j.input in
    at_end j.cursor && all_placed P.leaf_points (length m.store) m.kinds m.places (P.nodes * P.children) 0

unfoldable pub record_listing : Job → ℕ → Memory → List ℕ
record_listing j nan m =
    let P = plan_of j.input in listing P.nodes P.children P.leaf_points nan j.counts m

-- what writing does with a listing: an answer, and the bytes after it
pub record Put : Type 0 where
  pub answer : Result ℕ Unlisted
  pub bytes : List ℕ

abbrev pub refused_put : Unlisted → List ℕ → Put
refused_put a out = record { answer = Err a; bytes = out }

abbrev pub put_listing : List ℕ → List ℕ → Put
put_listing bs out = record { answer = put_answer bs out; bytes = put_bytes bs out }

-- of a record that is not impossible
unfoldable pub possible_written : Job → ℕ → Memory → List ℕ → Put
possible_written j nan m out =
    cond (not (printable j m)) (refused_put NotPrintable out) (put_listing (record_listing j nan m) out)

-- of any record (rule T16)
unfoldable pub written : Option Job → ℕ → Memory → List ℕ → Put
written None nan m out = refused_put (Refused NoJob) out
written (Some j) nan m out = cond (impossible sparse j m) (refused_put (Refused ImpossibleRecord) out) (possible_written j nan m out)
