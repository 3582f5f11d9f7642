-- The lengths that `jisampode_lengths` gives are enough: an open on slices of just these lengths is not refused.
use mathlib.Core.Path.{◌≡◌}
use native.Mathlib.Nat.{le_refl}
use Rattle.grid.specs.declared.Grid.{Grid}
use Rattle.std.specs.Prelude.{Ok}
use Rattle.grid.specs.Limits.{children_of}
use Rattle.input.specs.Causes.{refusal_of}
use Rattle.input.proofs.Clear.{Long, clear, accepted}
use Rattle.input.specs.declared.Input.{Input}
use Rattle.input.specs.Needed.{needed_lengths}
use Rattle.field_host.specs.Needed.{longest, any_refusal}

exact : (g : Grid) → Long g (needed_lengths g)
unfolding children_of
exact g = record { kinds = le_refl _; numbers = le_refl _; places = le_refl _; corners = le_refl _; store = le_refl _ }

pub enough : (i : Input) → any_refusal i ≡ Ok tt → refusal_of i (needed_lengths i.grid) ≡ Ok tt
enough i none =
    let c = clear i longest none in
    accepted i (needed_lengths i.grid)
    (record { one = c.one; two = c.two; three = c.three; four = c.four; five = c.five; lent = exact i.grid })
