-- `put_form` meets its contract.
use Rattle.std.proofs.Common.{ap, sym, ◌∙◌, refl, subst}
use Rattle.std.specs.Prelude.{unwrap_or}
use Rattle.forms.proofs.FormTurns.{first_number, spell_turn, spell_done}
use Rattle.forms.proofs.SinkSteps.{room_first, room_rest, put_whole}
use Rattle.forms.proofs.writing.put_form.Goals as goal

pub put_piece-requires : goal.put_piece-requires
put_piece-requires g c =
    let number =
    c.unwrap_or.ensures ∙ ap (λ o. unwrap_or o 0) (c.copied.ensures ∙ c.first.ensures.value)
    ∙ first_number c.loop-b.left.now in
    let turn = spell_turn _ _ _ c.loop-b-test.true _ c.from-piece.ensures _ number _ refl in
    room_first _ _ g.S.Sink.laws _ _ _ turn c.loop-b.invariant.room

pub loop-b-preserved : goal.loop-b-preserved
loop-b-preserved g c =
    let number =
    c.unwrap_or.ensures ∙ ap (λ o. unwrap_or o 0) (c.copied.ensures ∙ c.first.ensures.value)
    ∙ first_number c.loop-b.left.now in
    let turn = spell_turn _ _ _ c.loop-b-test.true _ c.from-piece.ensures _ number _ c.after-left.ensures in
    let laws = g.S.Sink.laws in record {
      room = room_rest _ _ laws _ _ _ turn _ c.loop-b.invariant.room c.put_piece.ensures;
      whole = λ last put. c.loop-b.invariant.whole last (put_whole _ _ laws _ _ _ turn _ _ c.put_piece.ensures put);
    }

pub returns : goal.returns
returns g c =
    c.loop-b.invariant.whole _
    (subst (λ xs. g.S.Sink.puts c.loop-b.sink xs c.loop-b.sink) (sym (spell_done _ _ _ c.loop-b.auto.b-index-end c.loop-b-test.false))
    (g.S.Sink.laws.none c.loop-b.sink))
