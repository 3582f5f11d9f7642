-- The values passed stand at their places.
use Rattle.std.proofs.Common.{◌≡◌, length}
use Rattle.rows.specs.Inner.Written.{scattered}
use Rattle.rows.proofs.corners.scatter.Given as goal

abbrev pub invariant-loop-q : goal.invariant-loop-q
invariant-loop-q l = (length l.corners ≡ length l.initial.corners) × (l.corners ≡ scattered l.q l.places l.values l.initial.corners)
