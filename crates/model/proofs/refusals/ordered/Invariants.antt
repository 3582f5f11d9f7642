-- The parts passed so far have their inputs before them.
use Rattle.std.proofs.Common.{◌≡◌, map, true}
use Rattle.model.specs.Part.{part_in}
use Rattle.model.specs.Model.{ordered_to}
use Rattle.model.proofs.refusals.ordered.Given as goal

abbrev pub invariant-loop-p : goal.invariant-loop-p
invariant-loop-p l = ordered_to (map part_in l.parts) l.p ≡ true
