-- Where the line that holds a place ends: past its byte 10, or at the end of the text.
use Rattle.std.specs.Prelude.{◌≡◌, ℕ, ◌+◌, ◌-◌, ◌<◌, ◌≤◌, List, [], ◌++◌, length, ◌≢◌, slice_index, Option, Some, None}
use denote.Ref.{Bor}

pub record LineEnd (s : List ℕ) (at e : ℕ) : Type 0 where
  pub after : at < e
  pub within : e ≤ length s
  pub before : (k : ℕ) → k + 1 < e → at ≤ k → slice_index s k ≢ 10
  pub ended : e < length s → slice_index s (e - 1) ≡ 10

-- a text's first line, and the text after it; a text without bytes has none
abbrev pub IsFirstLine : List ℕ → Option (Bor (List ℕ)) → List ℕ → Type 0
IsFirstLine s None rest = (s ≡ []) × (rest ≡ [])
IsFirstLine s (Some line) rest = (s ≡ line.now ++ rest) × LineEnd s 0 (length line.now)
