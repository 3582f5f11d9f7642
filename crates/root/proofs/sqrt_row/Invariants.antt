-- `sqrt_row` meets its contract: at each turn the elements before `at` are roots, and the others are as they were.
use mathlib.Core.Path.{◌≡◌}
use Rattle.root.specs.Root.{square_root}
use Rattle.root.proofs.RowLaws.{map_first}
use Rattle.root.proofs.sqrt_row.Given as goal

abbrev pub invariant-loop-at : goal.invariant-loop-at
invariant-loop-at l = l.xs ≡ map_first square_root l.at l.initial.xs
