-- `node_total` meets its contract: the product of the counts fits, and so does its first part.
use Rattle.std.proofs.Common.{◌*◌, ◌^◌, ◌<◌, sym, ap, subst, arith}
use Rattle.grid.proofs.Counts.{area_le}
use Rattle.grid.specs.Nodes.{nodes_of}
use Rattle.grid.proofs.nodes.node_total.Goals as goal

pub overflow_mul-result : goal.overflow_mul-result
overflow_mul-result c =
    record { fits = subst (λ v. v.i * v.j < 2 ^ 64) (sym c.node_counts-n.ensures) (omega (arith, area_le c.args.g, c.requires)) }

pub overflow_mul-result-2 : goal.overflow_mul-result-2
unfolding nodes_of
overflow_mul-result-2 c =
    record { fits = subst (λ v. v.i * v.j * v.k < 2 ^ 64) (sym c.node_counts-n.ensures) c.requires }

pub returns : goal.returns
unfolding nodes_of
returns c = ap (λ v. v.i * v.j * v.k) c.node_counts-n.ensures
