-- Which children are active, by tables of the axes.
use Rattle.std.specs.Prelude.{ℕ, ◌*◌, ◌/◌, ◌%◌, Bool, false, ◌&&◌, List, ltb, get_or}
use Rattle.lists.specs.Flags.{in_rows}
use Rattle.grid.specs.declared.Grid.{Grid}
use Rattle.grid.specs.Blocks.{cube}
use Rattle.grid.specs.Nodes.{nodes_of}
use Rattle.grid.specs.Boxes.{active}

-- the test that a table gives
abbrev pub table_test : List Bool → ℕ → Bool
table_test t i = get_or t i false

-- the children of a slab, from the tables of two axes: n rows of n
abbrev pub row_test : (xs ys : List Bool) → (j i : ℕ) → Bool
row_test xs ys j i = table_test ys j && table_test xs i

abbrev pub slab_test : ℕ → (xs ys : List Bool) → ℕ → Bool
slab_test n xs ys = in_rows n (row_test xs ys)

-- the children of a node, from the tables of three axes: n slabs of n * n
abbrev pub slabs_test : ℕ → (xs ys zs : List Bool) → (k p : ℕ) → Bool
slabs_test n xs ys zs k p = table_test zs k && slab_test n xs ys p

abbrev pub node_test : ℕ → (xs ys zs : List Bool) → ℕ → Bool
node_test n xs ys zs = in_rows (n * n) (slabs_test n xs ys zs)

-- the children of all nodes: a row of n³ for each
abbrev pub grid_test : Grid → ℕ → Bool
grid_test g = in_rows (cube g.inner) (active g)

-- whether a place of the kinds is an active child's: none is past the last node (rules S1 and S2)
abbrev pub active_child : Grid → ℕ → Bool
active_child g j = ltb j (nodes_of g * cube g.inner) && active g (j / cube g.inner) (j % cube g.inner)
