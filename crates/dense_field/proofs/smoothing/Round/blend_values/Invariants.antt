-- At each turn the first i values are blended.
use Rattle.std.proofs.Common.{◌≡◌, length}
use lib.Ieee.{binary64, sub}
use Rattle.lists.specs.Filled.{filled}
use Rattle.geometry.specs.Axis.{as_float}
use Rattle.dense_field.specs.Inner.Offsets.{offset_blend}
use Rattle.dense_field.proofs.smoothing.Round.blend_values.Given as goal

abbrev pub invariant-loop-i : goal.invariant-loop-i
invariant-loop-i l =
    (length l.new ≡ length l.initial.new) × (l.keep ≡ sub binary64 (as_float 1) l.self.factor)
    × (l.new ≡ filled l.at l.i (offset_blend l.self.n l.self.factor l.self.old.now) l.initial.new)
