-- `counts::small_count` meets its contract: below 2 ^ 24 the cast gives the count, and from there on the answer is 2 ^ 24.
use Rattle.std.proofs.Common.{T, sym, subst, arith}
use lib.Ieee.{neg, of_bits}
use Rattle.dense_field.proofs.CountLaws.{below_most, count_below_lem, count_none, count_nan, count_most}
use Rattle.dense_field.proofs.counts.small_count.Goals as goal

pub truncating_f64_to_u64-requires : goal.truncating_f64_to_u64-requires
unfolding of_bits neg
truncating_f64_to_u64-requires c = record { lower_bound = subst T (sym c.if-q-2.true) tt; upper_bound = below_most _ c.if-q.true }

pub returns-then-q-2 : goal.returns-then-q-2
unfolding of_bits neg
returns-then-q-2 c = omega (arith, c.truncating_f64_to_u64.ensures, count_below_lem c.args.q c.if-q.true)

pub returns-then-q : goal.returns-then-q
unfolding of_bits neg
returns-then-q c = omega (arith, count_none c.args.q c.if-q.true c.if-q-2.false)

pub returns-then-q-3 : goal.returns-then-q-3
unfolding of_bits neg
returns-then-q-3 c = omega (arith, count_nan c.args.q c.if-q-3.true)

pub returns : goal.returns
unfolding of_bits neg
returns c = omega (arith, count_most c.args.q c.if-q.false c.if-q-3.false)
