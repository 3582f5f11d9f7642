-- `floor_size` meets its contract: the whole part, as a float again.
use Rattle.std.proofs.Common.{pos, ap, ◌∙◌}
use lib.Ieee.{binary64, of_int}
use Rattle.float.proofs.Whole.{in_range, floor_size}
use Rattle.float.proofs.rounding.floor_size.Goals as goal

pub truncating_f64_to_u64-requires : goal.truncating_f64_to_u64-requires
truncating_f64_to_u64-requires c =
    let r = in_range _ c.requires.plus c.requires.small in
    record { lower_bound = r.0; upper_bound = r.1 }

pub returns : goal.returns
returns c =
    c.from_count.ensures
    ∙ ap (λ n. of_int binary64 (pos n)) c.truncating_f64_to_u64.ensures
    ∙ floor_size _ c.requires.plus c.requires.small
