-- An open from any record does what it does from none.
use Rattle.std.proofs.Common.{rules, ◌≡◌, ap, ◌∙◌}
use Rattle.std.specs.Prelude.{None}
use Rattle.schedule.specs.Memory.{Memory}
use Rattle.schedule.specs.Lent.{memory_of}
use Rattle.schedule.specs.Calls.{opens}
use Rattle.sparse_field.specs.Calls.{called}
use Rattle.field_host.specs.Carried.{Carried, carried_of}
use Rattle.field_host.specs.Hosted.{hosted_by}
use Rattle.field_host.proofs.AnyRecord.{open_from_none}
use Rattle.field_host.proofs.calls.jisampode_open.Goals as goal

pub returns-clause-answer : goal.returns-clause-answer
returns-clause-answer c =
    let a = c.args in
    let old : Carried = carried_of a.record_words.now a.record_parts.now a.record_settings.now a.record_reals.now in
    let m : Memory = memory_of a.kinds.now a.numbers.now a.places.now a.store.now a.corners.now in
    let same : c.hand_back.result ≡ (hosted_by (called (opens _) None m) old).number = search rules in
    same ∙ ap (λ h. h.number) (open_from_none old m _)

pub returns-clause-carried : goal.returns-clause-carried
returns-clause-carried c =
    let a = c.args in
    let old : Carried = carried_of a.record_words.now a.record_parts.now a.record_settings.now a.record_reals.now in
    let m : Memory = memory_of a.kinds.now a.numbers.now a.places.now a.store.now a.corners.now in
    let new : Carried = carried_of c.hand_back.new.words c.hand_back.new.parts c.hand_back.new.settings c.hand_back.new.reals in
    let same : new ≡ (hosted_by (called (opens _) None m) old).carried = search rules in
    same ∙ ap (λ h. h.carried) (open_from_none old m _)

pub returns-clause-memory : goal.returns-clause-memory
returns-clause-memory c =
    let a = c.args in
    let old : Carried = carried_of a.record_words.now a.record_parts.now a.record_settings.now a.record_reals.now in
    let m : Memory = memory_of a.kinds.now a.numbers.now a.places.now a.store.now a.corners.now in
    let same : _ ≡ (hosted_by (called (opens _) None m) old).memory = search rules in
    same ∙ ap (λ h. h.memory) (open_from_none old m _)
