-- A row on the outside stays, and any other is its two ends and what is blended between them.
use Rattle.std.proofs.Common.{◌*◌, length, ap, ◌∙◌, mul-le-mul_right, arith}
use Rattle.lists.proofs.Filling.{filled_length}
use Rattle.dense_field.proofs.Lending.{within}
use Rattle.dense_field.proofs.Edges.{edge_first, edge_last}
use Rattle.dense_field.proofs.SmoothingLaws.{thin_row, edge_row, inner_row}
use Rattle.dense_field.proofs.smoothing.Round.smooth_row.Goals as goal
use Rattle.dense_field.proofs.smoothing.Round.smooth_row.Goals.{
  then-row-lt3-via-then-row-lt3,
  then-row-lt3-via-else-row-lt3+then-j-eq0,
  then-row-lt3-via-else-row-lt3+else-j-eq0+then-j-self,
}

pub returns-then-row-lt3 : goal.returns-then-row-lt3
returns-then-row-lt3 c =
    let a = c.args in
    let copied = c.copy_values.ensures in
    elim c.then-row-lt3.branch [
      | then-row-lt3-via-then-row-lt3 w ↦ thin_row a.self.now.n a.self.now.factor a.self.now.old.now a.j a.k a.new.now (omega arith) (omega arith) copied
      | then-row-lt3-via-else-row-lt3+then-j-eq0 w ↦
          edge_row a.self.now.n a.self.now.factor a.self.now.old.now a.j a.k a.new.now (omega arith) (edge_first _ _ (omega arith)) copied
      | then-row-lt3-via-else-row-lt3+else-j-eq0+then-j-self w ↦
          edge_row a.self.now.n a.self.now.factor a.self.now.old.now a.j a.k a.new.now (omega arith) (edge_last _ _ (omega arith)) copied
    ]

pub blend_values-requires : goal.blend_values-requires
blend_values-requires c =
    let a = c.args in
    let w = within a.self.now.lent a.j a.k (omega arith) (omega arith) in record {
      x_above = omega arith;
      rows = w.rows;
      before = omega (arith, mul-le-mul_right (a.self.now.n.i * a.self.now.n.j) c.requires.inside.1);
      behind = omega (arith, mul-le-mul_right (a.self.now.n.i * a.self.now.n.j) c.requires.inside.2);
      same = ap length c.copy_values-2.ensures ∙ filled_length _ _ _ _ ∙ c.requires.same;
    }

pub returns : goal.returns
returns c =
    let a = c.args in
    inner_row a.self.now.n a.self.now.factor a.self.now.old.now a.j a.k a.new.now (omega arith) (omega arith) (omega arith) (omega arith) (omega arith)
    c.copy_values-2.ensures
    c.blend_values.ensures
    c.copy_values-3.ensures
