-- One child more, marked or not.
use Rattle.std.proofs.Common.{◌≡◌, ℕ, ◌+◌, ◌*◌, ◌<◌, length, refl, ap, ◌∙◌, subst, add-zero, arith}
use Rattle.grid.specs.Inner.CornerMarks.{Marks}
use Rattle.grid.proofs.MarkLaws.{RowFits, row_fits, row_octet_below, row_more, row_skip, length_marked}
use Rattle.grid.proofs.needed.NodeKinds.mark_row.Goals as goal
use Rattle.grid.proofs.needed.NodeKinds.mark_row.Goals.{Start, then-self-first-ne0, else-self-first-ne0}

-- what the row's indices come to
fits : (c : Start) → RowFits c.args.self.now.n c.args.row
fits c = row_fits _ _ c.args.self.now.few c.requires.0

pub loop-i-init : goal.loop-i-init
loop-i-init c = (refl, rw add-zero c.requires.1)

pub mark_octet-requires : goal.mark_octet-requires
mark_octet-requires c =
    let l = c.loop-i in
    let a = c.args in
    let more : l.i < a.self.now.n = omega arith in
    omega (arith, row_octet_below a.self.now.n a.row l.i a.self.now.kinds.now l.list a.self.now.few c.requires.0 more, l.invariant.1.long)

pub loop-i-preserved : goal.loop-i-preserved
loop-i-preserved c =
    let l = c.loop-i in
    let a = c.args in
    let more : l.i < a.self.now.n = omega arith in (
      elim c.if-self-first-ne0.branch [
        | then-self-first-ne0 w ↦ ap length (w.list-is ∙ w.mark_octet.ensures) ∙ length_marked l.list _ ∙ l.invariant.0
        | else-self-first-ne0 w ↦ ap length w.list-is ∙ l.invariant.0
      ],
      elim c.if-self-first-ne0.branch [
        | then-self-first-ne0 w ↦ row_more a.self.now.n a.row l.i a.self.now.kinds.now l.list a.self.now.few c.requires.0 more l.invariant.1 w.if-self-first-ne0.true (w.list-is ∙ w.mark_octet.ensures)
        | else-self-first-ne0 w ↦ row_skip a.self.now.n a.row l.i a.self.now.kinds.now l.list a.self.now.few c.requires.0 more l.invariant.1 w.if-self-first-ne0.false w.list-is
      ],
    )

pub returns : goal.returns
returns c =
    let l = c.loop-i in
    let a = c.args in
    let all : l.i ≡ a.self.now.n = omega arith in
    (l.invariant.0, subst (λ (i : ℕ). Marks a.self.now.n a.self.now.kinds.now (a.row * a.self.now.n + i) l.list) all l.invariant.1)
