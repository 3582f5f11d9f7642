-- `nodes_along` meets its contract: by the quotient's place among 1 and 2 ^ 64.
use Rattle.std.proofs.Common.{max, T, sym, ap, ◌∙◌, subst}
use lib.Ieee.{of_bits, to_unsigned}
use Rattle.grid.specs.Nodes.{nodes_along}
use Rattle.float.proofs.Unsigned.{max_above, max_below, past_all, above_minus}
use Rattle.grid.proofs.nodes.nodes_along.Goals as goal

pub truncating_f64_to_u64-requires : goal.truncating_f64_to_u64-requires
unfolding of_bits
truncating_f64_to_u64-requires c = record { lower_bound = above_minus _ c.if-n.true; upper_bound = subst T (sym c.if-n-2.true) tt }

pub returns-then-n-2 : goal.returns-then-n-2
unfolding of_bits nodes_along
returns-then-n-2 c =
    c.truncating_f64_to_u64.ensures
    ∙ sym (max_above _ c.if-n.true)
    ∙ ap (λ x. max 1 (to_unsigned 64 x)) c.ceil-n.ensures

pub returns-then-n : goal.returns-then-n
unfolding of_bits nodes_along
returns-then-n c =
    sym (past_all _ c.if-n.true c.if-n-2.false)
    ∙ sym (max_above _ c.if-n.true)
    ∙ ap (λ x. max 1 (to_unsigned 64 x)) c.ceil-n.ensures

pub returns : goal.returns
unfolding of_bits nodes_along
returns c = sym (max_below _ c.if-n.false) ∙ ap (λ x. max 1 (to_unsigned 64 x)) c.ceil-n.ensures
