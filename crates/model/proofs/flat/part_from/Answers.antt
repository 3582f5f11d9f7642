-- `flat::part_from` meets its contract: each code gives the part at its place of the list.
use native.Mathlib.Omega.{arith}
use mathlib.Core.Path.{refl, sym}
use Rattle.model.specs.Flat.{part_from}
use Rattle.model.proofs.FlatParts.{unknown_code}
use Rattle.model.proofs.flat.part_from.Goals as goal

pub returns-in-0 : goal.returns-in-0
unfolding part_from
returns-in-0 c = rw c.in-0.is refl

pub returns-in-1 : goal.returns-in-1
unfolding part_from
returns-in-1 c = rw c.in-1.is refl

pub returns-in-2 : goal.returns-in-2
unfolding part_from
returns-in-2 c = rw c.in-2.is refl

pub returns-in-3 : goal.returns-in-3
unfolding part_from
returns-in-3 c = rw c.in-3.is refl

pub returns-in-4 : goal.returns-in-4
unfolding part_from
returns-in-4 c = rw c.in-4.is refl

pub returns-in-5 : goal.returns-in-5
unfolding part_from
returns-in-5 c = rw c.in-5.is refl

pub returns-in-6 : goal.returns-in-6
unfolding part_from
returns-in-6 c = rw c.in-6.is refl

pub returns-in-7 : goal.returns-in-7
unfolding part_from
returns-in-7 c = rw c.in-7.is refl

pub returns-in_default : goal.returns-in_default
returns-in_default c =
    sym (unknown_code _ _ _ _ _ (omega arith))
