-- `node_size` meets its contract: the product of two 32-bit numbers fits 64 bits.
use Rattle.std.proofs.Common.{◌≤◌, mul-le-mul, arith}
use Rattle.grid.specs.Nodes.{node_size}
use Rattle.grid.proofs.nodes.node_size.Goals as goal

pub overflow_mul-n : goal.overflow_mul-n
overflow_mul-n c =
    let a : c.args.n ≤ 4294967295 = omega arith in
    let b : c.steps_between.result ≤ 4294967295 = omega arith in
    record { fits = omega (arith, mul-le-mul a b) }

pub returns : goal.returns
unfolding node_size
returns c = cc
