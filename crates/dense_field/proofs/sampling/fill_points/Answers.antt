-- A stretch more stands, to the end of a row or of the run.
use Rattle.std.proofs.Common.{◌+◌, sym, ap, ◌∙◌, add-zero, add_assoc, arith}
use Rattle.geometry.proofs.PointRows.{none_set}
use Rattle.dense_field.proofs.Edges.{point_at}
use Rattle.dense_field.proofs.RunLaws.{indices, next_stretch, after_stretch, more_points}
use Rattle.dense_field.proofs.sampling.fill_points.Goals as goal

pub loop-t-init : goal.loop-t-init
loop-t-init c =
    (omega arith, c.indices-first.ensures ∙ ap (point_at c.args.field.n) (sym (add-zero c.args.at)), none_set c.args.points.now _)

pub overflow_sub-n : goal.overflow_sub-n
overflow_sub-n c = omega (arith, (indices c.args.field.n c.requires.x_above c.requires.y_above _ c.loop-t.invariant.1).i_in)

pub loop-t-preserved : goal.loop-t-preserved
loop-t-preserved c =
    let a = c.args in
    let n = a.field.n in
    let p = c.requires in
    let inv = c.loop-t.invariant in
    let t = c.loop-t.t in
    let count = c.min-count.result in
    let s = next_stretch c.args.field.n c.requires.x_above c.requires.y_above c.requires c.loop-t.t c.loop-t.invariant.1 (omega arith) c.min-count.ensures in (
      omega arith,
      after_stretch n p.x_above p.y_above (a.at + t) count inv.1 s.some s.fits c.new-last.ensures
          c.next_indices-first.ensures
          ∙ ap (point_at n) (add_assoc a.at t count),
      c.fill_stretch.ensures ∙ more_points a.field p.x_above p.y_above a.at t count a.points.now inv.1 s.fits inv.2,
    )
