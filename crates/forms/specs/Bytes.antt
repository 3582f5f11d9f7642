-- The bytes of a quoted text.
use Rattle.std.specs.Prelude.{ℕ, List, [], ◌∷◌}
use Prim.Native.Char.{code}
use Prim.Native.String.{String, [] as none, ◌∷◌ as ◌then◌}

abbrev pub bytes : String → List ℕ
bytes none = []
bytes (c then s) = code c ∷ bytes s
