-- THE DEFINITION OF `fieldlist`: what it prints for a text (rules T9 to T14).
use Rattle.std.specs.Prelude.{ℕ, List, [], ◌∷◌, Ok, Err}
use Rattle.input.specs.declared.Lengths.{Lengths}
use Rattle.causes.specs.Number.{number_of}
use Rattle.schedule.specs.Calls.{Answer}
use Rattle.plans.specs.Sparse.{sparse}
use Rattle.plans.specs.Plan.{plan_of}
use Rattle.forms.specs.Forms.{spell}
use Rattle.job_text.specs.declared.Job.{Job}
use Rattle.listing.specs.Lines.{refused_form, off_form}
use Rattle.job_text.specs.Reading.{Read, off_at, written, read_text, job_of}
use Rattle.job_text.specs.NanBits.{job_nan}
use Rattle.listing.specs.Listing.{plan_listing}

-- the lengths of the memory that the program lends (rule T9)
abbrev pub program_lengths : Lengths
program_lengths = record { kinds = 512; numbers = 512; places = 512; store = 4096; corners = 125 }

-- what is printed for a job, by the cause that its input meets (rules T10 and T13)
unfoldable pub listed_by : Job → Answer → List ℕ
listed_by j (Ok u) = plan_listing (plan_of j.input) (job_nan j)
listed_by j (Err cause) = spell refused_form (number_of cause ∷ [])

-- on the memory of the program (rule T9)
unfoldable pub job_listed : Job → List ℕ
job_listed j = listed_by j (sparse.answer program_lengths j.input)

-- for a text off its form its line, before any other cause is looked for (rules T13 and C52)
unfoldable pub read_listed : Read → List ℕ
read_listed (off_at n) = spell off_form (n ∷ [])
read_listed (written w) = job_listed (job_of w)

-- what `fieldlist` prints (rule T9)
unfoldable pub listed : List ℕ → List ℕ
listed text = read_listed (read_text text)
