-- The front of the list holds the values of the parts passed so far.
use Rattle.std.proofs.Common.{◌≡◌}
use Rattle.model.specs.Flat.{flat_of, parts_of}
use Rattle.model.proofs.PartValues.{written}
use Rattle.model.proofs.flat.evaluate_flat.Given as goal

abbrev pub invariant-loop-p : goal.invariant-loop-p
invariant-loop-p l = l.values ≡ written (parts_of (flat_of l.words l.numbers) l.parts) l.parts l.x l.y l.z l.initial.values l.p
