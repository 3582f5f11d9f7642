-- One value more is cut.
use Rattle.std.proofs.Common.{set, ap, ◌∙◌, arith, get_or}
use lib.Ieee.{nan}
use Rattle.std.proofs.lemmas.List.Edits.{map_over_more}
use Rattle.std.proofs.lemmas.List.{get_or_default}
use Rattle.dense_field.specs.Threshold.{cut}
use Rattle.dense_field.proofs.thresholds.cut_all.Goals as goal

pub loop-v-preserved : goal.loop-v-preserved
loop-v-preserved c =
    let s = c.loop-v in
    let read = get_or s.v-items s.v-index nan in
    ap (set s.v-items s.v-index) c.cut.ensures
    ∙ map_over_more (cut c.args.limit) c.args.values.now s.v-items s.v-index read (omega arith) s.invariant
    (get_or_default s.v-items s.v-index nan read (omega arith))
