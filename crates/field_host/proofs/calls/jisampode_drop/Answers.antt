-- A drop from any record does what it does from none.
use Rattle.std.proofs.Common.{rules, ◌≡◌, ap, ◌∙◌}
use Rattle.std.specs.Prelude.{None}
use Rattle.schedule.specs.Memory.{Memory}
use Rattle.schedule.specs.Lent.{memory_of}
use Rattle.schedule.specs.Calls.{drops}
use Rattle.sparse_field.specs.Calls.{called}
use Rattle.field_host.specs.Carried.{Carried, carried_of}
use Rattle.field_host.specs.Hosted.{hosted_by}
use Rattle.field_host.proofs.AnyRecord.{drop_from_none}
use Rattle.field_host.proofs.calls.jisampode_drop.Goals as goal

pub returns-clause-answer : goal.returns-clause-answer
returns-clause-answer c =
    let a = c.args in
    let old : Carried = carried_of a.record_words.now a.record_parts.now a.record_settings.now a.record_reals.now in
    let m : Memory = memory_of a.kinds.now a.numbers.now a.places.now a.store.now a.corners.now in
    let same : c.hand_back.result ≡ (hosted_by (called drops None m) old).number = search rules in
    same ∙ ap (λ h. h.number) (drop_from_none old m)

pub returns-clause-carried : goal.returns-clause-carried
returns-clause-carried c =
    let a = c.args in
    let old : Carried = carried_of a.record_words.now a.record_parts.now a.record_settings.now a.record_reals.now in
    let m : Memory = memory_of a.kinds.now a.numbers.now a.places.now a.store.now a.corners.now in
    let new : Carried = carried_of c.hand_back.new.words c.hand_back.new.parts c.hand_back.new.settings c.hand_back.new.reals in
    let same : new ≡ (hosted_by (called drops None m) old).carried = search rules in
    same ∙ ap (λ h. h.carried) (drop_from_none old m)

pub returns-clause-memory : goal.returns-clause-memory
returns-clause-memory c =
    let a = c.args in
    let old : Carried = carried_of a.record_words.now a.record_parts.now a.record_settings.now a.record_reals.now in
    let m : Memory = memory_of a.kinds.now a.numbers.now a.places.now a.store.now a.corners.now in
    let same : _ ≡ (hosted_by (called drops None m) old).memory = search rules in
    same ∙ ap (λ h. h.memory) (drop_from_none old m)
