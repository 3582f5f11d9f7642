-- `last_nan` meets its contract. The invariant: the array holds the bits of the parts passed so far.
use Rattle.std.proofs.Common.{◌≡◌, map, length, take}
use Rattle.model.specs.Part.{part_in}
use Rattle.job_text.specs.NanBits.{nans_to}
use Rattle.job_text.proofs.nan.last_nan.Given as goal

abbrev pub invariant-loop-p : goal.invariant-loop-p
invariant-loop-p l = record { whole : take l.p l.nans ≡ nans_to (map part_in l.parts) l.patterns l.p; size : length l.nans ≡ 64 }
