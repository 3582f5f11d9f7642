-- A listing by its sheet.
use Rattle.std.specs.Prelude.{ℕ, List}
use Rattle.schedule.specs.Memory.{Memory}
use Rattle.schedule.specs.Lent.{viewed}
use Rattle.listing.specs.declared.sheet.Sheet.{Sheet}
use Rattle.listing.specs.Listing.{line_at, lines_from, listing_to}

-- what its slices hold
abbrev pub sheet_memory : Sheet → Memory
sheet_memory s = viewed s.slices

abbrev pub sheet_line : Sheet → ℕ → List ℕ
sheet_line s j = line_at s.children s.points s.nan (sheet_memory s) j

abbrev pub sheet_lines : Sheet → List ℕ
sheet_lines s = lines_from (line_at s.children s.points s.nan (sheet_memory s)) s.total 0

abbrev pub sheet_listing : Sheet → List ℕ
sheet_listing s = listing_to s.total s.children s.points s.nan s.counts (sheet_memory s)
