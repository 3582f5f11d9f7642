-- Dimensions that are cut off right above the largest product are refused where the whole ones are, and are those where they pass.
use Rattle.std.proofs.Common.{◌∙◌, sym, ap, Ok}
use Rattle.causes.specs.First.{first_of}
use Rattle.geometry.specs.Values.{vec3i}
use Rattle.geometry.specs.Index.{dimensions_refused}
use Rattle.dense_field.specs.Points.{point_count_of, point_counts}
use Rattle.dense_field.proofs.CountLaws.{capped_passes, capped_refused}
use Rattle.dense_field.proofs.counts.point_count.Goals as goal

pub returns-then-dimensions_refused : goal.returns-then-dimensions_refused
unfolding first_of point_count_of point_counts
returns-then-dimensions_refused c =
    let nx = c.points_along-nx.ensures in
    let ny = c.points_along-ny.ensures in
    let nz = c.points_along-nz.ensures in
    let cut = sym (λ i. dimensions_refused (nx i) (ny i) (nz i)) ∙ sym c.dimensions_refused.ensures ∙ c.if-dimensions_refused.true in
    simp (
      sym c.box_refused.ensures ∙ c.if-box_refused.false,
      sym c.cell_refused.ensures ∙ c.if-cell_refused.false,
      capped_refused _ _ _ cut,
    )

pub returns : goal.returns
unfolding first_of point_count_of point_counts
returns c =
    let nx = c.points_along-nx.ensures in
    let ny = c.points_along-ny.ensures in
    let nz = c.points_along-nz.ensures in
    let passed = sym (λ i. dimensions_refused (nx i) (ny i) (nz i)) ∙ sym c.dimensions_refused.ensures ∙ c.if-dimensions_refused.false in
    let u = capped_passes _ _ _ passed in
    let whole = sym (λ i. dimensions_refused (u.first i) (u.second i) (u.third i)) ∙ passed in
    simp (
      sym c.box_refused.ensures ∙ c.if-box_refused.false,
      sym c.cell_refused.ensures ∙ c.if-cell_refused.false,
      whole,
    )
    (ap Ok (c.new.ensures ∙ (λ i. vec3i ((nx ∙ u.first) i) ((ny ∙ u.second) i) ((nz ∙ u.third) i))))
