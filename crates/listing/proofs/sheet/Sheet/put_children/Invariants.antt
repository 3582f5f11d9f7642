-- `put_children` meets its contract. The invariant: the lines that are left to put have room, and give what all lines give.
use Rattle.std.proofs.Common.{◌-◌, length}
use Rattle.listing.specs.Listing.{lines_from}
use Rattle.listing.specs.Inner.Sheets.{sheet_line, sheet_lines}
use Rattle.listing.proofs.sheet.Sheet.put_children.Given as goal

abbrev pub invariant-loop-j : goal.invariant-loop-j
invariant-loop-j g l =
    let left = lines_from (sheet_line l.self) (l.self.total - l.j) l.j in record {
      room : g.S.Sink.room l.sink (length left);
      whole : (last : _) → g.S.Sink.puts l.sink left last → g.S.Sink.puts l.initial.sink (sheet_lines l.self) last;
    }
