-- The three tables tell the active children.
use Rattle.std.proofs.Common.{◌<◌, sym, subst, arith}
use Rattle.grid.proofs.ActiveCounts.{along_x, along_y, along_z}
use Rattle.grid.proofs.Counts.{i_above, j_above}
use Rattle.grid.proofs.LimitLaws.{inner_block}
use Rattle.kinds.proofs.NodeKinds.{by_tables}
use Rattle.kinds.proofs.tables.NodeTables.of.Goals as goal

pub indices-at-requires : goal.indices-at-requires
indices-at-requires c =
    let g = c.args.g.grid in
    let e = sym c.node_counts-nodes.ensures in
    (subst (λ v. 0 < v.i) e (i_above g), subst (λ v. 0 < v.j) e (j_above g))

pub axis_table-requires : goal.axis_table-requires
axis_table-requires c = let g = c.args.g in omega (arith, along_x g.grid c.axes-axes.ensures, (inner_block g.grid g.two).most)

pub axis_table-requires-2 : goal.axis_table-requires-2
axis_table-requires-2 c = let g = c.args.g in omega (arith, along_y g.grid c.axes-axes.ensures, (inner_block g.grid g.two).most)

pub axis_table-requires-3 : goal.axis_table-requires-3
axis_table-requires-3 c = let g = c.args.g in omega (arith, along_z g.grid c.axes-axes.ensures, (inner_block g.grid g.two).most)

pub invariant_of-result : goal.invariant_of-result
invariant_of-result c = let g = c.args.g in record { small = (inner_block g.grid g.two).most }

pub returns-clause-tests : goal.returns-clause-tests
returns-clause-tests c =
    by_tables c.args.g.grid c.args.v c.axis_table.result c.axis_table-2.result c.axis_table-3.result
    c.axes-axes.ensures c.node_counts-nodes.ensures c.indices-at.ensures
    c.axis_table.ensures c.axis_table-2.ensures c.axis_table-3.ensures
