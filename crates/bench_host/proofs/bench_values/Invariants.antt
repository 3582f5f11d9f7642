-- The points passed so far have their values.
use Rattle.std.proofs.Common.{◌≡◌}
use Rattle.lists.specs.Filled.{filled}
use Rattle.model.specs.Flat.{flat_of}
use Rattle.field_host.specs.Given.{model_given}
use Rattle.bench_host.specs.Points.{value_at}
use Rattle.bench_host.proofs.bench_values.Given as goal

abbrev pub invariant-loop-k : goal.invariant-loop-k
invariant-loop-k l =
    l.results ≡ filled 0 l.k (value_at (model_given (flat_of l.fn.words l.fn.numbers) l.fn.count) l.px l.py l.pz) l.initial.results
