-- Counts of cases, one for each kind.
use Rattle.std.specs.Prelude.{ℕ, ◌+◌, ◌%◌, ◌^◌, Bool, if◌then◌else◌, List, fold, slice_index, slice_set}

-- a u64's sum
abbrev pub plus : ℕ → ℕ → ℕ
plus a b = (a + b) % 2 ^ 64

-- one more of a kind
abbrev pub counted : ℕ → List ℕ → List ℕ
counted kind counts = slice_set counts kind (plus (slice_index counts kind) 1)

-- one more of a kind where a case is wrong
abbrev pub wrong_if : Bool → ℕ → List ℕ → List ℕ
wrong_if right kind counts = if right then counts else counted kind counts

-- over all kinds
abbrev pub total_of : List ℕ → ℕ
total_of counts = fold plus 0 counts
