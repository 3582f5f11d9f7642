-- A run more is sampled.
use Rattle.std.proofs.Common.{◌≡◌, ◌+◌, ◌*◌, ◌<◌, ℕ, min, length, take, sym, refl, ap, ◌∙◌, zero-add, length-take-le, arith}
use lib.Seq.{get_or-take}
use Rattle.lists.specs.Filled.{filled}
use Rattle.lists.proofs.Filling.{filled_none, filled_length, filled_more, filled_done, filled_all}
use Rattle.lists.proofs.LentPart.{lent_copy}
use Rattle.float.specs.Zero.{plus_zero}
use Rattle.model.specs.Part.{past}
use Rattle.dense_field.specs.Field.{points_of}
use Rattle.dense_field.specs.Inner.Runs.{place_value}
use Rattle.dense_field.proofs.RunLaws.{no_points_long, points_long, results_long, run_value}
use Rattle.dense_field.proofs.sampling.sample_places.Goals as goal

pub loop-run-init : goal.loop-run-init
loop-run-init c = record {
  points = no_points_long c.new-points.ensures;
  results = refl;
  long = refl;
  sampled = let none : 0 ≡ min 0 (length c.args.values.now) = omega arith in filled_done 0 _ _ (sym (filled_none 0 _ _)) none;
}

pub loop-run-preserved : goal.loop-run-preserved
loop-run-preserved c =
    let a = c.args in
    let s = c.loop-run in
    let len = c.min-len.result in
    let at = s.run * 64 in
    let g = place_value a.model.now a.field in
    let results = c.evaluate_row_into.new.results in
    let row = c.evaluate_row_into.ensures.results in
    let more : at < length a.values.now = omega arith in
    let here_from : min at (length a.values.now) ≡ at = omega arith in
    let so_far = filled_done 0 g a.values.now s.invariant.sampled here_from in
    let value =
    run_value a.model.now a.field at len (omega arith) s.points s.invariant.points s.results s.invariant.results c.fill_points.ensures row in
    let here =
    lent_copy at len s.values past (omega arith) g (at + len) (take len results) (omega arith) c.copy_from_slice.ensures.after
    (length-take-le len results (omega (arith, results_long _ _ _ _ _ row s.invariant.results)))
    (λ q below. get_or-take len results q past below ∙ value q below) in
    let next =
    filled_more 0 at len {total = min ((s.run + 1) * 64) (length a.values.now)} g a.values.now so_far
    (here ∙ ap (λ (m : ℕ). filled m len g s.values) (sym (zero-add at)))
    (omega arith) in record {
      points = points_long _ _ c.fill_points.ensures s.invariant.points;
      results = results_long _ _ _ _ _ row s.invariant.results;
      long = ap length next ∙ filled_length _ _ _ _;
      sampled = next;
    }

pub returns : goal.returns
returns c =
    let s = c.loop-run in
    let a = c.args in
    let g = place_value a.model.now a.field in
    let last : min (s.run * 64) (length a.values.now) ≡ points_of a.field.n = omega arith in
    filled_done 0 g a.values.now s.invariant.sampled last ∙ filled_all (points_of a.field.n) g a.values.now plus_zero c.requires.long
