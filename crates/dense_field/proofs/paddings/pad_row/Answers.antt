-- An outer row is set whole, and an inner one at its two ends.
use Rattle.std.proofs.Common.{◌≡◌, ◌+◌, true, arith}
use Rattle.lists.proofs.LentPart.{lent_set}
use Rattle.float.specs.Zero.{plus_zero}
use Rattle.dense_field.specs.Field.{on_edge}
use Rattle.dense_field.proofs.Lending.{within}
use Rattle.dense_field.proofs.Edges.{edge_first, edge_last, outer_row, row_from}
use Rattle.dense_field.proofs.PadLaws.{outer_stretch, inner_row}
use Rattle.dense_field.proofs.paddings.pad_row.Goals as goal
use Rattle.dense_field.proofs.paddings.pad_row.Goals.{then-j-eq0-via-then-j-eq0, then-j-eq0-via-else-j-eq0+then-j-n}

pub returns-then-j-eq0 : goal.returns-then-j-eq0
returns-then-j-eq0 c =
    let a = c.args in
    let w = within c.requires.lent a.j a.k (omega arith) (omega arith) in
    let at = row_from a.n a.j a.k in
    let edge : on_edge a.j a.n.j ≡ true =
    elim c.then-j-eq0.branch [
      | then-j-eq0-via-then-j-eq0 w ↦ edge_first _ _ (omega arith)
      | then-j-eq0-via-else-j-eq0+then-j-n w ↦ edge_last _ _ (omega arith)
    ] in
    outer_stretch a.n a.value a.values.now at a.n.i (outer_row a.n a.j a.k (omega arith) edge)
    (lent_set at a.n.i a.values.now plus_zero (omega arith) a.value (at + a.n.i) (omega arith) (c.fill.ensures.after (λ y same. same)))

pub returns : goal.returns
returns c =
    let a = c.args in
    let w = within c.requires.lent a.j a.k (omega arith) (omega arith) in
    inner_row a.n a.value a.values.now a.j a.k (omega arith) (omega arith) (omega arith) (omega arith) (omega arith) (omega arith)
