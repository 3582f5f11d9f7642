-- A slice that is lent, as a contract sees it: at one moment in what a call requires, as it begins and as it ends in what it ensures.
use Rattle.std.specs.Prelude.{List}
use Rattle.std.specs.Borrow.{Bor}
use denote.Triple.Both.{Both}

abbrev pub Slice : Type 0 → Type 0
Slice A = Bor (List A)

abbrev pub LentSlice : Type 0 → Type 0
LentSlice A = Both (Slice A) (Slice A)
