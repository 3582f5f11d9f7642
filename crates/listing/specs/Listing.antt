-- The listing of a finished job: a line of counts, then a line for each active child (rules T10 to T12).
use Rattle.std.specs.Prelude.{ℕ, zero, suc, ◌+◌, ◌*◌, ◌/◌, ◌%◌, Bool, true, false, cond, List, [], ◌∷◌, ◌++◌, Float, eqb, get_or}
use Rattle.std.specs.Float.{binary64}
use Rattle.std.specs.Float.Ieee.{to_bits, is_nan}
use Rattle.lists.specs.Tabulate.{tabulate}
use Rattle.float.specs.Zero.{plus_zero}
use Rattle.schedule.specs.Schedule.{decision}
use Rattle.schedule.specs.Plan.{Plan}
use Rattle.grid.specs.declared.Verdict.{Verdict}
use Rattle.grid.specs.declared.Verdict.TheVariants.{Constant, Leaf}
use Rattle.schedule.specs.Memory.{Memory}
use Rattle.schedule.specs.Totals.{leaves_all, total}
use Rattle.schedule.specs.declared.Counts.{Counts}
use Rattle.schedule.specs.Counts.{counts_with}
use Rattle.forms.specs.Digits.{hex_of}
use Rattle.forms.specs.Forms.{spell}
use Rattle.listing.specs.Lines.{done_form, leaf_form, leaf_end, constant_form}

-- ---- lines

-- a leaf value's bits, where a NaN has those of the model (rule T14)
unfoldable pub bits_in : ℕ → Float → ℕ
bits_in nan x = cond (is_nan x) nan (to_bits binary64 x)

-- values, each after a space
unfoldable pub values_text : ℕ → List Float → List ℕ
values_text nan [] = []
values_text nan (x ∷ xs) = (32 ∷ hex_of (bits_in nan x)) ++ values_text nan xs

-- the line of a leaf (rule T11)
unfoldable pub leaf_line : ℕ → (v c : ℕ) → List Float → List ℕ
leaf_line nan v c values = spell leaf_form (v ∷ c ∷ []) ++ (values_text nan values ++ leaf_end)

-- the line of a constant (rule T12)
unfoldable pub constant_line : (v c : ℕ) → Float → List ℕ
constant_line v c x = spell constant_form (v ∷ c ∷ to_bits binary64 x ∷ [])

-- the first line (rule T10)
unfoldable pub done_line : Counts → List ℕ
done_line k = spell done_form (k.grid.nodes ∷ k.grid.active ∷ k.leaves ∷ k.sampled ∷ k.evaluations ∷ [])

-- r lines from place j on
unfoldable pub lines_from : (ℕ → List ℕ) → (r j : ℕ) → List ℕ
lines_from f zero j = []
lines_from f (suc r) j = f j ++ lines_from f r (suc j)

-- ---- the listing of an input's job, from its plan

-- child c of node v, if it is active (rules T11 and T12)
unfoldable pub plan_line : Plan → ℕ → (v c : ℕ) → Bool → Verdict → List ℕ
plan_line P nan v c false d = []
plan_line P nan v c true (Constant k x) = constant_line v c x
plan_line P nan v c true Leaf = leaf_line nan v c (tabulate P.leaf_points (P.point_value v c))

-- the child at place j of all nodes' children
unfoldable pub plan_line_at : Plan → ℕ → ℕ → List ℕ
plan_line_at P nan j =
    let v = j / P.children in
    let c = j % P.children in
    plan_line P nan v c (P.active v c) (decision P v c)

-- all lines: the counts of the finished job, then node after node (rules T10 and T11)
unfoldable pub plan_listing : Plan → ℕ → List ℕ
plan_listing P nan =
    done_line (counts_with P (leaves_all P) (total P)) ++ lines_from (plan_line_at P nan) (P.nodes * P.children) 0

-- ---- the listing of a memory

-- the values of the leaf that has a place in the store
unfoldable pub leaf_values : (points : ℕ) → List Float → ℕ → List Float
leaf_values points store place = tabulate points (λ p. get_or store (place * points + p) plus_zero)

-- the child of this kind: 0 is empty, 2 a leaf, any other a constant (rule T12)
unfoldable pub kind_line : (points nan v c kind : ℕ) → Float → ℕ → List Float → List ℕ
kind_line points nan v c kind x place store =
    cond (eqb kind 0) [] (cond (eqb kind 2) (leaf_line nan v c (leaf_values points store place)) (constant_line v c x))

unfoldable pub line_at : (children points nan : ℕ) → Memory → ℕ → List ℕ
line_at children points nan m j =
    kind_line points nan (j / children) (j % children) (get_or m.kinds j 0) (get_or m.numbers j plus_zero) (get_or m.places j 0) m.store

-- so many children in all, so many to a node, of leaves with so many points
abbrev pub listing_to : (total children points nan : ℕ) → Counts → Memory → List ℕ
listing_to total children points nan k m = done_line k ++ lines_from (line_at children points nan m) total 0

-- so many nodes
unfoldable pub listing : (nodes children points nan : ℕ) → Counts → Memory → List ℕ
listing nodes children points nan k m = listing_to (nodes * children) children points nan k m
