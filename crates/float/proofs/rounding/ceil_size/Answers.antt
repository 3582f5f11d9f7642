-- `ceil_size` meets its contract: one more than the whole part where that is below the size.
use Rattle.std.proofs.Common.{true, false, ◌∙◌, arith}
use Rattle.float.proofs.Whole.{in_range, whole_small, ceil_by_test}
use Rattle.float.proofs.rounding.ceil_size.Goals as goal

pub truncating_f64_to_u64-n-requires : goal.truncating_f64_to_u64-n-requires
truncating_f64_to_u64-n-requires c =
    let r = in_range _ c.requires.plus c.requires.small in
    record { lower_bound = r.0; upper_bound = r.1 }

pub overflow_add-n : goal.overflow_add-n
overflow_add-n c = omega (arith, c.truncating_f64_to_u64-n.ensures, whole_small _ c.requires.plus c.requires.small)

pub returns-then-whole-a : goal.returns-then-whole-a
returns-then-whole-a c =
    c.from_count.ensures
    ∙ ceil_by_test _ true _ _ c.requires.plus c.requires.small
    c.truncating_f64_to_u64-n.ensures c.from_count-whole.ensures c.if-whole-a.true

pub returns-else-whole-a : goal.returns-else-whole-a
returns-else-whole-a c =
    c.from_count-whole.ensures
    ∙ ceil_by_test _ false _ _ c.requires.plus c.requires.small
    c.truncating_f64_to_u64-n.ensures c.from_count-whole.ensures c.if-whole-a.false
