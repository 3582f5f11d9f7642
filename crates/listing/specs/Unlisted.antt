-- The number by which C knows why there is no listing.
use Rattle.std.specs.Prelude.{ℕ}
use Rattle.causes.specs.Number as causes
use Rattle.listing.specs.declared.unlisted.Unlisted.{Unlisted}
use Rattle.listing.specs.declared.unlisted.Unlisted.TheVariants.{Refused, NotPrintable}

-- `list_job` never answers that a job is not printable
abbrev pub number_of : Unlisted → ℕ
number_of (Refused cause) = causes.number_of cause
number_of NotPrintable = 8
