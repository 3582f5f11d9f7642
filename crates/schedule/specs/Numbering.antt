-- Leaves that are numbered from 0 in child order (rule S8).
use Rattle.std.specs.Prelude.{ℕ, zero, suc, ◌+◌, ◌-◌, ◌*◌, Bool, cond, ◌&&◌, List, eqb, get_or}
use Rattle.schedule.specs.Plan.{Plan}
use Rattle.schedule.specs.Memory.{Memory}

-- whether the leaves among the first j children are n, and their places are 0 to n - 1 in child order
unfoldable pub numbered : (kinds places : List ℕ) → (j n : ℕ) → Bool
numbered kinds places zero n = eqb n 0
numbered kinds places (suc j) n =
    cond (eqb (get_or kinds j 0) 2) (eqb (get_or places j 0 + 1) n && numbered kinds places j (n - 1)) (numbered kinds places j n)

-- whether a memory numbers n leaves, over the children of all nodes
abbrev pub numbers_leaves : Plan → Memory → ℕ → Bool
numbers_leaves P m n = numbered m.kinds m.places (P.nodes * P.children) n
