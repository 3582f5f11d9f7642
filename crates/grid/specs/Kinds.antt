-- The kinds of a child and their numbers (rule S2).
use Rattle.std.specs.Prelude.{ℕ, zero, suc}
use Rattle.grid.specs.declared.Kind.{Kind}
use Rattle.grid.specs.declared.Kind.TheVariants.{Empty, Active, Leaf}

abbrev pub kind_number : Kind → ℕ
kind_number Empty = 0
kind_number Active = 1
kind_number Leaf = 2

-- what a lent number stands for; one that is no kind's counts as active (rules S2 and G16)
abbrev pub kind_of : ℕ → Kind
kind_of zero = Empty
kind_of (suc zero) = Active
kind_of (suc (suc zero)) = Leaf
kind_of (suc (suc (suc n))) = Active
