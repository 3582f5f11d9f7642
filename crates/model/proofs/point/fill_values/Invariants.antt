-- The front of the list holds the values of the parts passed so far.
use Rattle.std.proofs.Common.{◌≡◌, length, map}
use Rattle.model.specs.Part.{part_in}
use Rattle.model.proofs.PartValues.{written}
use Rattle.model.proofs.point.fill_values.Given as goal

abbrev pub invariant-loop-p : goal.invariant-loop-p
invariant-loop-p l = l.values ≡ written (map part_in l.parts) (length l.parts) l.at.x l.at.y l.at.z l.initial.values l.p
