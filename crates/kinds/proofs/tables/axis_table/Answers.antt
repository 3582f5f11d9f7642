-- A child more.
use Rattle.std.proofs.Common.{◌<◌, false, length, ◌∙◌, arith}
use lib.ListN.{length-set}
use lib.Seq.{get_or-set_same, get_or-set_other}
use borrow.Author.Count.{below_none, below_more}
use borrow.Author.Rules.{rules}
use Rattle.kinds.proofs.tables.axis_table.Goals as goal

pub loop-c-init : goal.loop-c-init
loop-c-init c = (search rules, below_none _)

pub loop-c-preserved : goal.loop-c-preserved
loop-c-preserved c =
    let l = c.loop-c in
    let below : l.c < length l.table = omega arith in (
      length-set l.table l.c c.is_active.result ∙ l.invariant.0,
      below_more _ l.c
          (λ q h. get_or-set_other l.table l.c q c.is_active.result false (λ e. omega arith) ∙ l.invariant.1 q h)
          (get_or-set_same l.table l.c c.is_active.result false below ∙ c.is_active.ensures),
    )

pub returns : goal.returns
returns c = λ q h. c.loop-c.invariant.1 q (omega arith)
