-- `put_values` meets its contract.
use Rattle.std.proofs.Common.{sym, refl, [], ◌∷◌, subst}
use Rattle.std.specs.Float.Ieee.{nan}
use Rattle.forms.proofs.DigitLaws.{digits_length}
use Rattle.forms.proofs.SinkSteps.{room_first, room_rest, put_whole}
use Rattle.listing.proofs.LineLaws.{values_turn, values_done}
use Rattle.listing.proofs.sheet.put_values.Goals as goal

pub put_byte-requires : goal.put_byte-requires
put_byte-requires g c =
    let turn = values_turn c.args.nan c.args.values.now c.loop-x.x-index nan c.loop-x-test.true in
    room_first _ _ g.S.Sink.laws _ (32 ∷ []) _ turn c.loop-x.invariant.room

pub put_hex-requires : goal.put_hex-requires
put_hex-requires g c =
    let turn = values_turn c.args.nan c.args.values.now c.loop-x.x-index nan c.loop-x-test.true in
    let left = room_rest _ _ g.S.Sink.laws _ (32 ∷ []) _ turn _ c.loop-x.invariant.room c.put_byte.ensures in
    subst (g.S.Sink.room c.put_byte.new.self) (digits_length 16 16 _) (room_first _ _ g.S.Sink.laws _ _ _ refl left)

pub loop-x-preserved : goal.loop-x-preserved
loop-x-preserved g c =
    let laws = g.S.Sink.laws in
    let turn = values_turn c.args.nan c.args.values.now c.loop-x.x-index nan c.loop-x-test.true in
    let left = room_rest _ _ laws _ (32 ∷ []) _ turn _ c.loop-x.invariant.room c.put_byte.ensures in
    let digits = rw c.bits_in.ensures at c.put_hex.ensures in record {
      room = room_rest _ _ laws _ _ _ refl _ left digits;
      whole = λ last put.
          c.loop-x.invariant.whole last
          (put_whole _ _ laws _ (32 ∷ []) _ turn _ _ c.put_byte.ensures (put_whole _ _ laws _ _ _ refl _ _ digits put));
    }

pub returns : goal.returns
returns g c =
    c.loop-x.invariant.whole _
    (subst (λ xs. g.S.Sink.puts c.loop-x.sink xs c.loop-x.sink) (sym (values_done _ _ _ c.loop-x.auto.x-index-end c.loop-x-test.false))
    (g.S.Sink.laws.none c.loop-x.sink))
