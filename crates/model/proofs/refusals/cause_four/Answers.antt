-- The parts that are tested are the model's first.
use Rattle.std.proofs.Common.{rules, refl, ◌≡◌, ◌∙◌, ap, not, arith}
use Rattle.model.specs.Model.{ordered_to, parts_in, refused_by_four}
use Rattle.model.proofs.Front.{front_ordered}
use Rattle.model.proofs.refusals.cause_four.Goals as goal

pub returns-else-count-gt-MOST_PARTS : goal.returns-else-count-gt-MOST_PARTS
unfolding refused_by_four
returns-else-count-gt-MOST_PARTS c =
    let m = c.args.model.now in
    let same : c.ordered.result ≡ ordered_to (parts_in m) m.count = c.ordered.ensures ∙ front_ordered m.parts _ m.count (omega arith) refl in
    ap not same ∙ search rules
