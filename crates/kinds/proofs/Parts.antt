-- A list in so many parts of n elements each, and part v of it: where it lies, what comes of setting it, and of finding it right.
use mathlib.Core.Path.{◌≡◌, sym, ap, ◌∙◌}
use mathlib.Core.Bool.{Bool, true, false}
use mathlib.Core.List.{List}
use Prim.Native.Nat.{ℕ, ◌+◌, ◌*◌, ◌-◌, ◌≤◌, ◌<◌}
use native.Mathlib.Nat.{mul_assoc, mul-le-mul_right}
use native.Mathlib.Omega.{arith}
use lib.ListN.{length, take, drop, length-drop}
use lib.Seq.{length-take-le}
use borrow.Rule.Slice.PartMut.{put_mid}
use Rattle.grid.specs.declared.Grid.{Grid}
use Rattle.grid.specs.Blocks.{cube}
use Rattle.grid.specs.Nodes.{nodes_of}
use Rattle.grid.specs.Limits.{children_of}
use Rattle.lists.specs.Flags.{flags_from, agrees_from, in_rows}
use Rattle.lists.proofs.Flags.{flagged, flagged_length, flagged_all, agrees_all, row_below, row_length, rows_more, rows_agree, rows_differ}

-- a node is n slabs of n * n
pub of_slabs : (n : ℕ) (l : List ℕ) → length l ≡ cube n → length l ≡ n * (n * n)
of_slabs n l long = long ∙ mul_assoc n n n

-- all children are those of the nodes, by numbers that the code has reckoned
pub of_nodes : (g : Grid) (l : List ℕ) {nodes children : ℕ} → nodes ≡ nodes_of g → children ≡ cube g.inner → length l ≡ children_of g
    → length l ≡ nodes * children
unfolding children_of
of_nodes g l nodes children long = long ∙ (λ t. sym nodes t * sym children t)

module _ (n parts v : ℕ) (l : List ℕ) (whole : length l ≡ parts * n) where
  -- the part ends inside the list
  pub part_inside : v < parts → v * n + n ≤ length l
  part_inside below = omega (arith, row_below n v parts below)

  -- its length, as the code reckons it
  part_size : v * n + n - v * n ≡ n
  part_size = omega arith

  pub part_long : v < parts → length (take (v * n + n - v * n) (drop (v * n) l)) ≡ n
  part_long below =
      length-take-le (v * n + n - v * n) (drop (v * n) l) (omega (arith, part_inside below, length-drop (v * n) l)) ∙ part_size

  module _ (f : ℕ → ℕ → Bool) where
    -- ---- parts that are found right

    pub part_right : v < parts → agrees_from (in_rows n f) 0 (take (v * n) l) ≡ true → agrees_from (f v) 0 (take (v * n + n - v * n) (drop (v * n) l)) ≡ true
        → agrees_from (in_rows n f) 0 (take ((v + 1) * n) l) ≡ true
    part_right below = rows_agree n f l v (part_inside below) part_size

    pub part_wrong : v < parts → agrees_from (f v) 0 (take (v * n + n - v * n) (drop (v * n) l)) ≡ false → false ≡ agrees_from (in_rows n f) 0 l
    part_wrong below = rows_differ n f l v (part_inside below) part_size

    pub parts_right : parts ≤ v → agrees_from (in_rows n f) 0 (take (v * n) l) ≡ true → true ≡ agrees_from (in_rows n f) 0 l
    parts_right all = agrees_all (in_rows n f) l (v * n) (omega (arith, mul-le-mul_right n all))

    -- ---- parts that are set, in a list s whose parts before v have been

    module _ {s : List ℕ} (set : s ≡ flagged (in_rows n f) (v * n) l) where
      pub kept_length : v ≤ parts → length s ≡ length l
      kept_length within = ap length set ∙ flagged_length (in_rows n f) l (v * n) (omega (arith, mul-le-mul_right n within))

      pub next_long : v < parts → length (take (v * n + n - v * n) (drop (v * n) s)) ≡ n
      next_long below = row_length n f l v (part_inside below) part_size set

      pub part_set : v < parts → {part : List ℕ} {r : ℕ} → r ≡ n → part ≡ flags_from (f v) r 0
          → put_mid (v * n) (v * n + n - v * n) s part ≡ flagged (in_rows n f) ((v + 1) * n) l
      part_set below same = rows_more n f l v (part_inside below) part_size same set

      pub parts_set : v ≤ parts → parts ≤ v → s ≡ flags_from (in_rows n f) (parts * n) 0
      parts_set within all =
          set ∙ flagged_all (in_rows n f) l (v * n) (parts * n) (mul-le-mul_right n all) whole (omega (arith, mul-le-mul_right n within))
