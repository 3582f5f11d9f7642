-- `put_leaf` meets its contract: a line of three parts.
use Rattle.std.proofs.Common.{refl}
use Rattle.forms.proofs.SinkSteps.{room_first, room_rest, put_whole}
use Rattle.listing.proofs.LineLaws.{leaf_parts}
use Rattle.listing.proofs.sheet.put_leaf.Goals as goal

pub put_form-requires : goal.put_form-requires
put_form-requires g c = let a = c.args in room_first _ _ g.S.Sink.laws _ _ _ (leaf_parts a.nan a.v a.c a.values.now) c.requires

pub put_values-requires : goal.put_values-requires
put_values-requires g c =
    let a = c.args in
    let laws = g.S.Sink.laws in
    room_first _ _ laws _ _ _ refl (room_rest _ _ laws _ _ _ (leaf_parts a.nan a.v a.c a.values.now) _ c.requires c.put_form.ensures)

pub put_form-requires-2 : goal.put_form-requires-2
put_form-requires-2 g c =
    let a = c.args in
    let laws = g.S.Sink.laws in
    let left = room_rest _ _ laws _ _ _ (leaf_parts a.nan a.v a.c a.values.now) _ c.requires c.put_form.ensures in
    room_rest _ _ laws _ _ _ refl _ left c.put_values.ensures

pub returns : goal.returns
returns g c =
    let a = c.args in
    let laws = g.S.Sink.laws in
    put_whole _ _ laws _ _ _ (leaf_parts a.nan a.v a.c a.values.now) _ _ c.put_form.ensures
    (put_whole _ _ laws _ _ _ refl _ _ c.put_values.ensures c.put_form-2.ensures)
