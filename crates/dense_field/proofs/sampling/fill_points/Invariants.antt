-- At each turn the first t points stand, and `first` is the next one's indices.
use Rattle.std.proofs.Common.{◌≡◌, ◌+◌, ◌-◌, ◌≤◌}
use Rattle.geometry.specs.PointRow.{with_points}
use Rattle.dense_field.specs.Inner.Runs.{place_point}
use Rattle.dense_field.proofs.Edges.{point_at}
use Rattle.dense_field.proofs.sampling.fill_points.Given as goal

abbrev pub invariant-loop-t : goal.invariant-loop-t
invariant-loop-t l =
    (l.t ≤ l.len) × (l.first ≡ point_at l.field.n (l.at + l.t))
    × (l.points ≡ with_points l.t (λ q. place_point l.field (l.at + q)) l.initial.points)

abbrev pub decreases-loop-t : goal.decreases-loop-t
decreases-loop-t l = l.len - l.t
