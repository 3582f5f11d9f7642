-- The sizes that a block may have (rule G1). Any other is cause 2.
use Rattle.std.specs.Prelude.{ℕ, ◌*◌, Bool, ◌||◌, ◌==◌}

-- whether a block may have this size (rule G1)
unfoldable pub is_block : ℕ → Bool
is_block n = n == 2 || n == 4 || n == 8 || n == 16 || n == 32 || n == 64

-- n³
abbrev pub cube : ℕ → ℕ
cube n = n * n * n
