-- `mark_octet` meets its contract: its stores are those of `marked` at the eight corners.
use Rattle.std.proofs.Common.{refl, arith, length-set}
use Rattle.grid.specs.Inner.CornerMarks.{marked, eight_from}
use Rattle.grid.proofs.needed.mark_octet.Goals as goal

pub bounds-list-p-2 : goal.bounds-list-p-2
bounds-list-p-2 c = simp length-set (omega arith)

pub bounds-list-side : goal.bounds-list-side
bounds-list-side c = simp length-set (omega arith)

pub bounds-list-side-2 : goal.bounds-list-side-2
bounds-list-side-2 c = simp length-set (omega arith)

pub bounds-list-over : goal.bounds-list-over
bounds-list-over c = simp length-set (omega arith)

pub bounds-list-over-2 : goal.bounds-list-over-2
bounds-list-over-2 c = simp length-set (omega arith)

pub bounds-list-far : goal.bounds-list-far
bounds-list-far c = simp length-set (omega arith)

pub bounds-list-far-2 : goal.bounds-list-far-2
bounds-list-far-2 c = simp length-set (omega arith)

pub shape_of-list : goal.shape_of-list
shape_of-list c = simp length-set

pub returns : goal.returns
unfolding marked eight_from
returns c = refl
