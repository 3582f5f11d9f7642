-- `put_values` meets its contract. The invariant: the values that are left to put have room, and give what all values give.
use Rattle.std.proofs.Common.{length, drop}
use Rattle.listing.specs.Listing.{values_text}
use Rattle.listing.proofs.sheet.put_values.Given as goal

abbrev pub invariant-loop-x : goal.invariant-loop-x
invariant-loop-x g l =
    let left = values_text l.nan (drop l.x-index l.values) in record {
      room : g.S.Sink.room l.sink (length left);
      whole : (last : _) → g.S.Sink.puts l.sink left last → g.S.Sink.puts l.initial.sink (values_text l.nan l.values) last;
    }
