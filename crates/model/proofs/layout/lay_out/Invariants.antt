-- `layout::lay_out` meets its contract: the places passed so far hold their parts' entries.
use mathlib.Core.Path.{◌≡◌}
use mathlib.Core.List.{map}
use lib.ListN.{replicate}
use Rattle.float.specs.Zero.{plus_zero}
use Rattle.model.specs.Part.{part_in}
use Rattle.model.specs.Flat.{word_entries, number_entries}
use Rattle.model.proofs.EntryRows.{laid}
use Rattle.model.proofs.layout.lay_out.Given as goal

abbrev pub invariant-loop-p : goal.invariant-loop-p
invariant-loop-p l =
    (l.words ≡ laid (map part_in l.model.parts) word_entries 0 l.p (replicate 192 0))
    × (l.numbers ≡ laid (map part_in l.model.parts) number_entries 0 l.p (replicate 256 plus_zero))
