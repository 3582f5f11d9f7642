-- The version of the C interface: 0.1.0. It goes up when a host has to be compiled anew (rule R17).
use Rattle.std.specs.Prelude.{ℕ, ◌+◌, ◌*◌}

abbrev pub version : ℕ
version = 0 * 10000 + 1 * 100 + 0
