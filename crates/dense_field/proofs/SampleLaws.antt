-- A model that sampling does not refuse, and the values of a field by its places.
use Rattle.std.proofs.Common.{◌≡◌, ℕ, false, sym, Ok}
use lib.Ieee.{Float}
use Rattle.causes.proofs.Lists.{none_applies}
use Rattle.lists.specs.Tabulate.{tabulate}
use Rattle.lists.proofs.Tables.{tabulate_cong}
use Rattle.geometry.specs.declared.Vec3.{Vec3}
use Rattle.geometry.specs.declared.Vec3i.{Vec3i}
use Rattle.model.specs.Model.{parts_in, refused_by_four}
use Rattle.model.specs.declared.ImplicitModel.{ImplicitModel}
use Rattle.model.proofs.Accepted.{accepted_value}
use Rattle.dense_field.specs.Field.{points_of}
use Rattle.dense_field.specs.Points.{field_point}
use Rattle.dense_field.specs.Sampling.{sampled, sample_outcome}
use Rattle.dense_field.specs.Inner.Runs.{place_value}
use Rattle.dense_field.proofs.Edges.{point_at}

-- a model that sampling does not refuse is in order
pub passed : (m : ImplicitModel) (origin : Vec3) (cell : Float) (n : Vec3i) (len : ℕ) → Ok tt ≡ sample_outcome m origin cell n len → refused_by_four m ≡ false
unfolding sample_outcome
passed m origin cell n len e = (none_applies tt _ (sym e)).1.0

-- a model in order has its own values
pub places_sampled : (m : ImplicitModel) (origin : Vec3) (cell : Float) (n : Vec3i) → refused_by_four m ≡ false
    → tabulate (points_of n) (place_value m (record { origin = origin; cell = cell; n = n })) ≡ sampled (parts_in m) m.count origin cell n
unfolding sampled
places_sampled m origin cell n in_order =
    tabulate_cong (points_of n) _ _ (λ p h. let at = field_point origin cell (point_at n p) in accepted_value m in_order at.x at.y at.z)
