-- `put_children` meets its contract.
use Rattle.std.proofs.Common.{sym, subst}
use Rattle.forms.proofs.SinkSteps.{room_first, room_rest, put_whole}
use Rattle.listing.specs.Inner.Sheets.{sheet_line}
use Rattle.listing.proofs.ListingLaws.{lines_turn, lines_done}
use Rattle.listing.proofs.sheet.Sheet.put_children.Goals as goal

pub put_child-requires-clause-room : goal.put_child-requires-clause-room
put_child-requires-clause-room g c =
    room_first _ _ g.S.Sink.laws _ _ _ (lines_turn (sheet_line c.args.self.now) _ c.loop-j.j c.loop-j-test.true) c.loop-j.invariant.room

pub loop-j-preserved : goal.loop-j-preserved
loop-j-preserved g c =
    let laws = g.S.Sink.laws in
    let turn = lines_turn (sheet_line c.args.self.now) _ c.loop-j.j c.loop-j-test.true in record {
      room = room_rest _ _ laws _ _ _ turn _ c.loop-j.invariant.room c.put_child.ensures;
      whole = λ last put. c.loop-j.invariant.whole last (put_whole _ _ laws _ _ _ turn _ _ c.put_child.ensures put);
    }

pub returns : goal.returns
returns g c =
    c.loop-j.invariant.whole _
    (subst (λ xs. g.S.Sink.puts c.loop-j.sink xs c.loop-j.sink) (sym (lines_done (sheet_line c.args.self.now) _ c.loop-j.j c.loop-j-test.false))
    (g.S.Sink.laws.none c.loop-j.sink))
