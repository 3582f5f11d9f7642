-- Elements of lists, and a store right behind a front.
use mathlib.Core.Path.{◌≡◌, refl, sym, ◌∙◌}
use mathlib.Core.List.{List, [], ◌∷◌, ◌++◌, map}
use Prim.Native.Nat.{ℕ, zero, suc, ◌<◌}
use native.Mathlib.Nat.{not-suc-le-zero, le_of_suc-le-suc}
use lib.ListN.{length, get_or, drop, set}
use lib.Seq.{drop-cons, set_at, append_snoc}

-- a store right after a front: the front is longer by one
pub front_set : {A : Type 0} (front l : List A) (p : ℕ) (v : A) → length front ≡ p → p < length l
    → set (front ++ drop p l) p v ≡ front ++ (v ∷ []) ++ drop (suc p) l
front_set front [] p v e h = absurd (not-suc-le-zero h)
front_set front (x ∷ l) p v e h =
    rw (drop-cons (x ∷ l) p x h)
    (set_at front (get_or (x ∷ l) p x) (drop (suc p) (x ∷ l)) v p e ∙ sym (append_snoc front v (drop (suc p) (x ∷ l))))
