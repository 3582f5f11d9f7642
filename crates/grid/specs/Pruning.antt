-- Which active children become constants, and which kind and number a constant has (rules G11 to G14, and S7).
use Rattle.std.specs.Prelude.{Bool, cond, ◌||◌, List, [], ◌∷◌, Float}
use Rattle.std.specs.Float.{binary64}
use Rattle.std.specs.Float.Ieee.{add, sub, div, lt}
use Rattle.float.specs.Select.{min_of, max_of}
use Rattle.float.specs.Zero.{plus_zero}
use Rattle.geometry.specs.declared.BoundingBox.{BoundingBox}
use Rattle.geometry.specs.Distance.{distance_of}
use Rattle.geometry.specs.Axis.{as_float}
use Rattle.grid.specs.declared.Kind.TheVariants.{Active}
use Rattle.grid.specs.declared.Verdict.{Verdict}
use Rattle.grid.specs.declared.Verdict.TheVariants.{Constant, Leaf}

-- half the way from a child's min to its max (rule G11)
unfoldable pub half_diagonal : BoundingBox → Float
half_diagonal b = div binary64 (distance_of b.min b.max.x b.max.y b.max.z) (as_float 2)

-- a value of each element in turn, from the left
unfoldable pub folded : (Float → Float → Float) → Float → List Float → Float
folded f a [] = a
folded f a (x ∷ l) = folded f (f a x) l

-- the same begun with the first element
unfoldable pub from_first : (Float → Float → Float) → List Float → Float
from_first f [] = plus_zero
from_first f (c0 ∷ rest) = folded f c0 rest

-- lo and hi, begun with the octet's first value (rule G12)
abbrev pub lowest : List Float → Float
lowest = from_first min_of

abbrev pub highest : List Float → Float
highest = from_first max_of

-- whether a child becomes a constant, by one band, lo, hi and h; otherwise it is a leaf (rule G13)
unfoldable pub pruned : (least most lo hi h : Float) → Bool
pruned least most lo hi h = lt (add binary64 hi h) least || lt most (sub binary64 lo h)

-- the mean of an octet, its values added to +0 one after the other (rule G14)
unfoldable pub average : List Float → Float
average octet = div binary64 (folded (add binary64) plus_zero octet) (as_float 8)

-- what an active child becomes, by a band, its box and its octet: a constant of kind 1 with the mean where it is pruned, else a leaf (rules
-- G13, G14 and S7)
unfoldable pub verdict_of : (least most : Float) → BoundingBox → List Float → Verdict
verdict_of least most b octet =
    cond (pruned least most (lowest octet) (highest octet) (half_diagonal b)) (Constant Active (average octet)) Leaf
