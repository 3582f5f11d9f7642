-- The first and the last slab stay, and the others are smoothed row by row.
use Rattle.std.proofs.Common.{◌≡◌, ◌+◌, ◌*◌, true, length, sym, ap, ◌∙◌, arith, rules}
use Rattle.lists.proofs.Filling.{filled_none, filled_length, filled_done, filled_more}
use Rattle.dense_field.specs.Field.{on_edge}
use Rattle.dense_field.proofs.Edges.{edge_first, edge_last}
use Rattle.dense_field.proofs.SmoothingLaws.{slab_stays}
use Rattle.dense_field.proofs.smoothing.Round.smooth_slab.Goals as goal
use Rattle.dense_field.proofs.smoothing.Round.smooth_slab.Goals.{then-k-eq0-via-then-k-eq0, then-k-eq0-via-else-k-eq0+then-k-self}

pub returns-then-k-eq0 : goal.returns-then-k-eq0
returns-then-k-eq0 c =
    let a = c.args in
    let edge : on_edge a.k a.self.now.n.k ≡ true =
    elim c.then-k-eq0.branch [
      | then-k-eq0-via-then-k-eq0 w ↦ edge_first _ _ (omega arith)
      | then-k-eq0-via-else-k-eq0+then-k-self w ↦ edge_last _ _ (omega arith)
    ] in
    slab_stays a.self.now.n a.self.now.factor a.self.now.old.now a.k a.new.now edge c.copy_values.ensures

pub loop-j-init : goal.loop-j-init
loop-j-init c =
    let none : 0 ≡ 0 * c.args.self.now.n.i = omega arith in
    (search rules, filled_done _ _ _ (sym (filled_none _ _ _)) none)

pub loop-j-preserved : goal.loop-j-preserved
loop-j-preserved c =
    let a = c.args in
    let more : c.loop-j.j * a.self.now.n.i + a.self.now.n.i ≡ (c.loop-j.j + 1) * a.self.now.n.i = omega arith in
    let row = c.smooth_row.ensures in
    (ap length row ∙ filled_length _ _ _ _ ∙ c.loop-j.invariant.0, filled_more _ _ _ _ _ c.loop-j.invariant.1 row more)
