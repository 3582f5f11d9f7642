-- The digest of a text, so that a stored answer may be short: FNV-1a of 64 bits.
use Rattle.std.specs.Prelude.{ℕ, ◌*◌, ◌%◌, ◌^◌, List, fold, bit_xor}

-- the digest of no bytes
abbrev pub no_bytes : ℕ
no_bytes = 0xcbf29ce484222325

abbrev pub prime : ℕ
prime = 0x100000001b3

-- the digest of a text and one byte more, where n is the text's
abbrev pub with_byte : ℕ → ℕ → ℕ
with_byte n b = (bit_xor n b * prime) % 2 ^ 64

-- the same for more bytes
abbrev pub with_bytes : ℕ → List ℕ → ℕ
with_bytes n bytes = fold with_byte n bytes
