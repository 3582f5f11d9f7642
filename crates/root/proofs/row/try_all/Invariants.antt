-- `try_all` meets its contract: the elements so far have been tried.
use Rattle.root.specs.Inner.Trials.{AllTried}
use Rattle.root.proofs.row.try_all.Given as goal

abbrev pub invariant-loop-i : goal.invariant-loop-i
invariant-loop-i l = AllTried l.i l.xs l.work
