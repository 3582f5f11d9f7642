-- What is at the front of the room is what the reader gave.
use Rattle.std.proofs.Common.{◌≡◌, ◌-◌, ◌≤◌, length, take}
use Rattle.std.specs.Io.KnownBytes.{Consumes}
use Rattle.streams.proofs.read_text.Given as goal

abbrev pub invariant-loop-count : goal.invariant-loop-count
invariant-loop-count g l =
    (length l.room ≡ length l.initial.room) × (l.count ≤ length l.room)
    × Consumes (g.R.Read.remaining l.initial.from) (g.R.Read.remaining l.from) (take l.count l.room)

abbrev pub decreases-loop-count : goal.decreases-loop-count
decreases-loop-count g l = length l.initial.room - l.count
