-- At each turn the places of the runs before are sampled.
use Rattle.std.proofs.Common.{◌≡◌, ◌*◌, min, length}
use Rattle.lists.specs.Filled.{filled}
use Rattle.dense_field.specs.Inner.Runs.{place_value}
use Rattle.dense_field.proofs.RunLaws.{Long}
use Rattle.dense_field.proofs.sampling.sample_places.Given as goal

abbrev pub invariant-loop-run : goal.invariant-loop-run
invariant-loop-run l =
    record {
      points : Long l.points;
      results : length l.results ≡ 64;
      long : length l.values ≡ length l.initial.values;
      sampled : l.values ≡ filled 0 (min (l.run * 64) (length l.initial.values)) (place_value l.model l.field) l.initial.values;
    }
