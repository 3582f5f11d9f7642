-- The value returned is the last one written, and +0 where none is.
use Rattle.std.proofs.Common.{◌∙◌, sym, ap, List, get_or, length, map, min, ◌-◌, arith}
use lib.Ieee.{Float}
use Rattle.model.specs.Part.{past, part_in}
use Rattle.model.proofs.Front.{front_written, front_value}
use Rattle.model.proofs.PartValues.{none_value, last_written}
use Rattle.model.proofs.evaluations.evaluate_parts.Goals as goal

pub returns-then-count-eq0-clause-answer : goal.returns-then-count-eq0-clause-answer
returns-then-count-eq0-clause-answer c =
    let a = c.args in
    let m = a.model.now in
    let at = a.at in
    sym (none_value _ at.x at.y at.z c.if-count-eq0.true)
    ∙ front_value m.parts _ (min m.count 64) (omega arith) c.counted-parts.ensures at.x at.y at.z

pub returns-then-count-eq0-clause-values : goal.returns-then-count-eq0-clause-values
returns-then-count-eq0-clause-values c =
    let a = c.args in
    let m = a.model.now in
    let at = a.at in
    c.fill_values.ensures.values
    ∙ front_written m.parts _ (min m.count 64) (omega arith) c.counted-parts.ensures at.x at.y at.z a.values.now

pub returns-clause-answer : goal.returns-clause-answer
returns-clause-answer c =
    let a = c.args in
    let m = a.model.now in
    let at = a.at in
    let parts = c.counted-parts.result.now in
    let count = length parts in
    ap (λ (t : List Float). get_or t (count - 1) past) c.fill_values.ensures.values
    ∙ last_written (map part_in parts) count at.x at.y at.z a.values.now (omega arith)
    ∙ front_value m.parts parts (min m.count 64) (omega arith) c.counted-parts.ensures at.x at.y at.z

pub returns-clause-values : goal.returns-clause-values
returns-clause-values c =
    let a = c.args in
    let m = a.model.now in
    let at = a.at in
    c.fill_values.ensures.values
    ∙ front_written m.parts _ (min m.count 64) (omega arith) c.counted-parts.ensures at.x at.y at.z a.values.now
