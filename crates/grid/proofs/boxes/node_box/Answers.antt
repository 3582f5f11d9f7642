-- `node_box` meets its contract: the counts along x and y are at least 1.
use Rattle.std.proofs.Common.{◌<◌, sym, subst}
use Rattle.grid.proofs.Counts.{i_above, j_above}
use Rattle.grid.specs.Boxes.{node_box}
use Rattle.grid.proofs.boxes.node_box.Goals as goal

pub indices-requires : goal.indices-requires
indices-requires c =
    (subst (λ v. 0 < v.i) (sym c.node_counts-n.ensures) (i_above _), subst (λ v. 0 < v.j) (sym c.node_counts-n.ensures) (j_above _))

pub returns : goal.returns
unfolding node_box
returns c = cc
