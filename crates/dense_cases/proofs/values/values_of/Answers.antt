-- `values_of` reads the first 150 numbers.
use Rattle.std.proofs.Common.{◌≡◌, from_bits, map, take, length, arith, ap, ◌∙◌}
use Rattle.std.specs.Float.{binary64}
use Rattle.std.proofs.Math.Seq.{take-length}
use Rattle.std.proofs.lemmas.List.{take_min}
use Rattle.dense_cases.proofs.values.values_of.Goals as goal

pub returns : goal.returns
returns c =
    let xs = c.args.numbers.left.now in
    let given = take c.min-count.result xs in
    let all : c.loop-n.n-index ≡ length given = omega arith in
    c.loop-n.invariant ∙ ap (map (from_bits binary64)) (rw (all, take-length given, c.min-count.ensures) (take_min 150 xs))
