-- The squares, their roots, and the roots less the radius, one after the other.
use Rattle.std.proofs.Common.{◌≡◌, ℕ, List, length, get_or, ap, ◌∙◌, arith}
use Rattle.std.proofs.lemmas.List.{get_or-map}
use lib.Ieee.{Float, binary64, sub}
use lib.ListN.{length-map}
use Rattle.root.specs.Root.{square_root}
use Rattle.geometry.specs.Distance.{distance_squared_of, distance_of}
use Rattle.geometry.specs.PointRow.{point_in}
use Rattle.lists.proofs.Tables.{length_tabulate, get_d_tabulate, tabulate_cong}
use Rattle.lists.specs.Tabulate.{tabulate}
use Rattle.model.specs.Part.{past, sphere_value}
use Rattle.model.specs.Inner.Lanes.{points_lent}
use Rattle.model.proofs.lanes.fill_sphere.Goals as goal

pub returns : goal.returns
unfolding sphere_value distance_of
returns c =
    let a = c.args in
    let n = length a.row.now in
    let squares : ℕ → Float = λ k. let at = point_in (points_lent a.points.now) k in distance_squared_of a.c at.x at.y at.z in
    let row = c.fill_squares.new.row in
    let long : length row ≡ n = ap length c.fill_squares.ensures ∙ length_tabulate n squares in
    let size : length c.sqrt_row.new.xs ≡ n = ap length c.sqrt_row.ensures ∙ length-map row square_root ∙ long in
    c.take_radius.ensures
    ∙ ap (λ (m : ℕ). tabulate m (λ k. sub binary64 (get_or c.sqrt_row.new.xs k past) a.r)) size
    ∙ tabulate_cong n _ _
    (λ k h.
    ap (λ (t : List Float). sub binary64 (get_or t k past) a.r) c.sqrt_row.ensures
    ∙ ap (λ (v : Float). sub binary64 v a.r)
    (get_or-map square_root row k past past (omega arith)
    ∙ ap square_root (ap (λ (t : List Float). get_or t k past) c.fill_squares.ensures ∙ get_d_tabulate n squares k past h)))
