-- A count is its float exactly, up to 2 ^ 53.
use Rattle.std.proofs.Common.{ℕ, ◌^◌, ◌≤◌, false, pos}
use lib.Ieee.{binary64, of_int}
use lib.Ieee.Back.{round_whole}
use lib.Ieee.Exact.{HasValue}

pub count_exact : (n : ℕ) → n ≤ 2 ^ 53 → HasValue (of_int binary64 (pos n)) false n 1
unfolding of_int
count_exact n most = round_whole binary64 false n most
