-- Bytes put one after another: two runs of stores are one run.
use Rattle.std.specs.Prelude.{◌≡◌, ℕ, suc, ◌+◌, List, [], ◌∷◌, ◌++◌, length, set}
use Rattle.std.proofs.Common.{add-zero, add-suc, suc-add}
use Rattle.std.proofs.lemmas.List.Edits.{sets}

pub sets_append : (l : List ℕ) (i : ℕ) (vs ws : List ℕ) → sets (sets l i vs) (i + length vs) ws ≡ sets l i (vs ++ ws)
sets_append l i [] ws = rw (add-zero i)
sets_append l i (a ∷ vs) ws = rw (add-suc i (length vs), ← suc-add i (length vs)) (sets_append (set l i a) (suc i) vs ws)
