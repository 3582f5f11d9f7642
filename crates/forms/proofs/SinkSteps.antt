-- Bytes put into a sink in two steps: there is room for both, and both are put.
use Rattle.std.proofs.Common.{◌≡◌, ℕ, ◌+◌, List, ◌++◌, length, length-append, arith, subst, sym, ap, ◌∙◌}
use Rattle.forms.specs.Sinks.{SinkLaws}

module _
    {S : Type 0} (room : S → ℕ → Type 0) (puts : S → List ℕ → S → Type 0) (laws : SinkLaws room puts) (s : S) (first rest : List ℕ) {whole : List ℕ}
    (is : whole ≡ first ++ rest) where
  size : length whole ≡ length first + length rest
  size = ap length is ∙ length-append first rest

  pub room_first : room s (length whole) → room s (length first)
  room_first enough = laws.less s (length first) (length whole) (omega (arith, size)) enough

  pub room_rest : (t : S) → room s (length whole) → puts s first t → room t (length rest)
  room_rest t enough put = laws.left s t first (length rest) (subst (room s) size enough) put

  pub put_whole : (t u : S) → puts s first t → puts t rest u → puts s whole u
  put_whole t u before after = subst (λ xs. puts s xs u) (sym is) (laws.both s t u first rest before after)
