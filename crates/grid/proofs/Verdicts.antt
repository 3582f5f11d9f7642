-- What a child becomes, by the pruning rule, and which kinds a constant may have.
use Rattle.std.proofs.Common.{◌≡◌, Bool, true, false, refl, List}
use lib.Ieee.{Float}
use Rattle.geometry.specs.declared.BoundingBox.{BoundingBox}
use Rattle.grid.specs.declared.Kind.{Kind}
use Rattle.grid.specs.declared.Kind.TheVariants.{Active}
use Rattle.grid.specs.declared.Verdict.TheVariants.{Constant}
use Rattle.grid.specs.Pruning.{pruned, lowest, highest, half_diagonal, verdict_of}

module _ (least most : Float) (b : BoundingBox) (octet : List Float) where
  -- a constant's kind is neither that of a child that is not active nor a leaf's (rule S2)
  pub verdict_kind : {k : Kind} {x : Float} → verdict_of least most b octet ≡ Constant k x → k ≡ Active
  unfolding verdict_of
  verdict_kind {k} {x} is = by (pruned least most (lowest octet) (highest octet) (half_diagonal b)) refl
    where
      by : (t : Bool) → pruned least most (lowest octet) (highest octet) (half_diagonal b) ≡ t → k ≡ Active
      by true e = let same = rw e at is in cc
      by false e = let same = rw e at is in cc
