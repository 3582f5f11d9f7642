-- `put` of a sheet meets its contract: the first line, then the children's.
use Rattle.std.proofs.Common.{refl}
use Rattle.forms.proofs.SinkSteps.{room_first, room_rest, put_whole}
use Rattle.listing.specs.Listing.{done_line}
use Rattle.listing.proofs.sheet.SheetText.put.Goals as goal

pub put_form-requires : goal.put_form-requires
unfolding done_line
put_form-requires g c = room_first _ _ g.S.Sink.laws _ _ _ refl c.requires

pub put_children-requires : goal.put_children-requires
unfolding done_line
put_children-requires g c = room_rest _ _ g.S.Sink.laws _ _ _ refl _ c.requires c.put_form.ensures

pub returns : goal.returns
unfolding done_line
returns g c = put_whole _ _ g.S.Sink.laws _ _ _ refl _ _ c.put_form.ensures c.put_children.ensures
