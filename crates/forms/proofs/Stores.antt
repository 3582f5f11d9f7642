-- Bytes put one after another: the last of a run may be stored first.
use mathlib.Core.Path.{◌≡◌}
use Prim.Native.Nat.{ℕ, suc, ◌+◌}
use native.Mathlib.Nat.{add-zero, add-suc, suc-add}
use native.Mathlib.Omega.{arith}
use mathlib.Core.List.{List, [], ◌∷◌, ◌++◌}
use lib.ListN.{length, set}
use lib.Seq.{sets, set_comm}

pub sets_last : (l : List ℕ) (i : ℕ) (vs : List ℕ) (b : ℕ) → sets l i (vs ++ (b ∷ [])) ≡ sets (set l (i + length vs) b) i vs
sets_last l i [] b = rw (add-zero i)
sets_last l i (a ∷ vs) b =
    rw (sets_last (set l i a) (suc i) vs b, add-suc i (length vs), suc-add i (length vs), set_comm l i (suc (i + length vs)) a b (omega arith))
