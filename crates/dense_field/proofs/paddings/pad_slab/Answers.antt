-- An outer slab is set whole, and an inner one row by row.
use Rattle.std.proofs.Common.{◌≡◌, ◌+◌, ◌*◌, true, length, sym, ap, ◌∙◌, mul_comm, arith, rules}
use Rattle.lists.proofs.Filling.{filled_none, filled_length, filled_done}
use Rattle.lists.proofs.LentPart.{lent_set}
use Rattle.float.specs.Zero.{plus_zero}
use Rattle.dense_field.specs.Field.{on_edge}
use Rattle.dense_field.proofs.Lending.{as_long, within}
use Rattle.dense_field.proofs.Edges.{edge_first, edge_last, outer_slab}
use Rattle.dense_field.proofs.PadLaws.{outer_stretch, pad_more}
use Rattle.dense_field.proofs.paddings.pad_slab.Goals as goal
use Rattle.dense_field.proofs.paddings.pad_slab.Goals.{then-k-eq0-via-then-k-eq0, then-k-eq0-via-else-k-eq0+then-k-n}

pub returns-then-k-eq0 : goal.returns-then-k-eq0
returns-then-k-eq0 c =
    let a = c.args in
    let w = within c.requires.lent 0 a.k c.requires.lent.y_above (omega arith) in
    let slab = a.n.i * a.n.j in
    let at = a.k * slab in
    let edge : on_edge a.k a.n.k ≡ true =
    elim c.then-k-eq0.branch [
      | then-k-eq0-via-then-k-eq0 w ↦ edge_first _ _ (omega arith)
      | then-k-eq0-via-else-k-eq0+then-k-n w ↦ edge_last _ _ (omega arith)
    ] in
    outer_stretch a.n a.value a.values.now at slab (outer_slab a.n a.k edge)
    (lent_set at slab a.values.now plus_zero (omega arith) a.value (at + slab) (omega arith) (c.fill.ensures.after (λ y same. same)))

pub loop-j-init : goal.loop-j-init
loop-j-init c =
    let none : 0 ≡ 0 * c.args.n.i = omega arith in
    (search rules, filled_done _ _ _ (sym (filled_none _ _ _)) none)

pub pad_row-requires : goal.pad_row-requires
pad_row-requires c = record { lent = as_long c.requires.lent c.loop-j.invariant.0; inside = (omega arith, omega arith, omega arith) }

pub loop-j-preserved : goal.loop-j-preserved
loop-j-preserved c =
    let a = c.args in
    let s = c.loop-j in
    let next = pad_more a.n a.value a.values.now (a.k * (a.n.i * a.n.j)) (s.j * a.n.i) a.n.i {total = (s.j + 1) * a.n.i}
    s.invariant.1 c.pad_row.ensures (omega arith) in
    (ap length next ∙ filled_length _ _ _ _, next)

pub returns : goal.returns
returns c =
    let a = c.args in
    let s = c.loop-j in
    let last : s.j ≡ a.n.j = omega arith in
    filled_done _ _ _ s.invariant.1 (ap (λ m. m * a.n.i) last ∙ mul_comm a.n.j a.n.i)
