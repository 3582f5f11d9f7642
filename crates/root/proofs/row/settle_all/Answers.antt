-- `settle_all` meets its contract: at each turn the first i elements are roots, and the others are as they were.
use mathlib.Core.Path.{◌≡◌, sym, ap, ◌∙◌, subst}
use mathlib.Core.List.{List}
use native.Mathlib.Omega.{arith}
use lib.ListN.{get_or}
use lib.Ieee.{Float, nan}
use Rattle.std.proofs.lemmas.List.Edits.{map_over_more}
use Rattle.std.proofs.lemmas.List.{get_or_default}
use Rattle.root.specs.Inner.Trials.{Tried}
use Rattle.root.specs.Root.{square_root}
use Rattle.root.proofs.RowLaws.{map_first_next}
use Rattle.root.proofs.row.settle_all.Goals as goal

pub settled-requires : goal.settled-requires
settled-requires c =
    let i = c.loop-i.i in
    let same : get_or c.loop-i.xs i nan ≡ get_or c.args.xs.now i nan =
    ap (λ (x : List Float). get_or x i nan) c.loop-i.invariant ∙ map_first_next square_root i _ nan in
    subst (λ (x : Float). Tried x (get_or c.args.work.now i 0)) (sym same) (c.requires.1.each i (omega arith))

pub loop-i-preserved : goal.loop-i-preserved
loop-i-preserved c =
    rw c.settled.ensures (map_over_more square_root c.args.xs.now c.loop-i.xs c.loop-i.i (get_or c.loop-i.xs c.loop-i.i nan) (omega arith) c.loop-i.invariant
    (get_or_default c.loop-i.xs c.loop-i.i nan _ (omega arith)))
