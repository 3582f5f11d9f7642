-- `settle_all` meets its contract: at each turn the first i elements are roots, and the others are as they were.
use mathlib.Core.Path.{◌≡◌}
use Rattle.root.specs.Root.{square_root}
use Rattle.root.proofs.RowLaws.{map_first}
use Rattle.root.proofs.row.settle_all.Given as goal

abbrev pub invariant-loop-i : goal.invariant-loop-i
invariant-loop-i l = l.xs ≡ map_first square_root l.i l.initial.xs
