-- One value more. The value returned is the last one written, and +0 where none is.
use Rattle.std.proofs.Common.{◌≡◌, ◌∙◌, refl, sym, ap, List, get_or, Float, ◌-◌, arith}
use Rattle.model.specs.Part.{past, part_value, placed}
use Rattle.model.specs.Model.{values_to}
use Rattle.model.specs.Flat.{flat_of, part_at, parts_of}
use Rattle.model.specs.declared.Part.{Part}
use Rattle.model.proofs.PartValues.{written, written_more, none_value, last_written}
use Rattle.model.proofs.FlatParts.{counts_as, flat_value, flat_written}
use Rattle.model.proofs.flat.evaluate_flat.Goals as goal

pub loop-p-init : goal.loop-p-init
unfolding values_to
loop-p-init c = refl

pub loop-p-preserved : goal.loop-p-preserved
unfolding part_at
loop-p-preserved c =
    let a = c.args in
    let l = flat_of a.words.now a.numbers.now in
    let p = c.loop-p.p in
    let values = c.loop-p.values in
    written_more (parts_of l c.min-parts.result) c.min-parts.result a.x a.y a.z a.values.now p (omega arith) (omega arith) c.loop-p.invariant
    (c.part_value.ensures
    ∙ ap (λ (q : Part). part_value (placed p q) a.x a.y a.z values) c.part_read.ensures
    ∙ ap (λ (q : Part). part_value q a.x a.y a.z values) (sym (counts_as l c.min-parts.result p (omega arith))))

pub returns-then-parts-eq0-clause-answer : goal.returns-then-parts-eq0-clause-answer
returns-then-parts-eq0-clause-answer c =
    let a = c.args in
    let l = flat_of a.words.now a.numbers.now in
    sym (none_value (parts_of l c.min-parts.result) a.x a.y a.z c.if-parts-eq0.true) ∙ flat_value l a.x a.y a.z c.min-parts.ensures

pub returns-then-parts-eq0-clause-values : goal.returns-then-parts-eq0-clause-values
returns-then-parts-eq0-clause-values c =
    let a = c.args in
    let l = flat_of a.words.now a.numbers.now in
    let n = c.min-parts.result in
    let all : c.loop-p.p ≡ n = omega arith in
    c.loop-p.invariant ∙ ap (written (parts_of l n) n a.x a.y a.z a.values.now) all ∙ flat_written l a.x a.y a.z c.min-parts.ensures a.values.now

pub returns-clause-answer : goal.returns-clause-answer
returns-clause-answer c =
    let a = c.args in
    let l = flat_of a.words.now a.numbers.now in
    let n = c.min-parts.result in
    let all : c.loop-p.p ≡ n = omega arith in
    ap (λ (t : List Float). get_or t (n - 1) past) (c.loop-p.invariant ∙ ap (written (parts_of l n) n a.x a.y a.z a.values.now) all)
    ∙ last_written (parts_of l n) n a.x a.y a.z a.values.now (omega arith)
    ∙ flat_value l a.x a.y a.z c.min-parts.ensures

pub returns-clause-values : goal.returns-clause-values
returns-clause-values c =
    let a = c.args in
    let l = flat_of a.words.now a.numbers.now in
    let n = c.min-parts.result in
    let all : c.loop-p.p ≡ n = omega arith in
    c.loop-p.invariant ∙ ap (written (parts_of l n) n a.x a.y a.z a.values.now) all ∙ flat_written l a.x a.y a.z c.min-parts.ensures a.values.now
