-- `put_digits` of a lent slice meets its contract.
use Rattle.std.proofs.Common.{refl, ◌∙◌, arith}
use Rattle.std.proofs.lemmas.List.{length-set}
use Rattle.forms.proofs.DigitLaws.{digits_length}
use Rattle.forms.proofs.Turns.{put_turn, put_done}
use Rattle.forms.proofs.sink.CursorSink.put_digits.Goals as goal

pub loop-i-preserved : goal.loop-i-preserved
loop-i-preserved c = let inv = c.loop-i.invariant in record {
  size = simp length-set inv.size;
  whole = put_turn _ _ _ _ _ _ c.loop-i-test.true c.digit_byte.ensures ∙ inv.whole;
}

pub returns : goal.returns
returns c = (
  refl,
  put_done _ _ _ _ _ c.loop-i-test.false ∙ c.loop-i.invariant.whole,
  omega (arith, digits_length c.args.base c.args.count c.args.x),
)
