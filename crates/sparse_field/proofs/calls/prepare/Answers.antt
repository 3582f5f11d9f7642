-- Every slice is zeroed, and the kinds are set over zeros.
use Rattle.std.proofs.Common.{◌≡◌, length, ap, ◌∙◌, arith}
use lib.ListN.{length-replicate}
use Rattle.lists.specs.Flags.{flags_from}
use Rattle.grid.specs.Limits.{children_of}
use Rattle.kinds.specs.Inner.Tables.{active_child}
use Rattle.schedule.specs.Memory.{Memory}
use Rattle.schedule.specs.Opened.{lengths_of, zero_memory, opened}
use Rattle.schedule.specs.Lent.{held, memory_of}
use Rattle.plans.specs.Plan.{plan_with}
use Rattle.sparse_field.proofs.Opening.{nothing}
use Rattle.sparse_field.proofs.calls.prepare.Goals as goal

-- zeroed kinds are as long as they were
long : (m : Memory) {z : Memory} → z ≡ zero_memory (lengths_of m) → length z.kinds ≡ length m.kinds
long m zero = ap (λ m. length m.kinds) zero ∙ length-replicate (length m.kinds) 0

pub invariant_of-set_kinds : goal.invariant_of-set_kinds
invariant_of-set_kinds c =
    let none = nothing c.args.input (lengths_of (held c.args.slices.now)) c.requires in
    record { two = none.two; five = none.five }

pub set_kinds-requires : goal.set_kinds-requires
unfolding children_of
set_kinds-requires c =
    let m = held c.args.slices.now in
    omega (arith, (nothing c.args.input (lengths_of m) c.requires).lent.kinds, long m c.zero.ensures.memory)

pub returns-clause-memory : goal.returns-clause-memory
unfolding opened plan_with
returns-clause-memory c =
    let m = held c.args.slices.now in
    let zero = c.zero.ensures.memory in
    let kinds = c.set_kinds.ensures ∙ ap (λ n. flags_from (active_child c.args.input.grid) n 0) (long m zero) in
    λ t. memory_of (kinds t) (zero t).numbers (zero t).places (zero t).store (zero t).corners
