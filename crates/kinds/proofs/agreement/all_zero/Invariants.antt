-- The kinds passed so far are 0.
use Rattle.std.proofs.Common.{◌≡◌, true, false, take}
use Rattle.lists.specs.Flags.{agrees_from}
use Rattle.kinds.proofs.agreement.all_zero.Given as goal

abbrev pub invariant-loop-i : goal.invariant-loop-i
invariant-loop-i l = agrees_from (λ _. false) 0 (take l.i l.kinds) ≡ true
