-- A row whose first points are set one after the other.
use Rattle.std.proofs.Common.{◌≡◌, ℕ, ◌+◌, ◌<◌, sym, ap, arith}
use Rattle.geometry.specs.declared.Vec3.{Vec3}
use Rattle.geometry.specs.declared.PointRow.{PointRow}
use Rattle.geometry.specs.PointRow.{with_point, with_points}
use Rattle.lists.proofs.Filling.{filled_none, front_store, filled_same}

module _ (r : PointRow) where
  pub none_set : (g : ℕ → Vec3) → r ≡ with_points 0 g r
  none_set g =
      λ t. record {
        xs = sym (filled_none 0 (λ q. (g q).x) r.xs) t;
        ys = sym (filled_none 0 (λ q. (g q).y) r.ys) t;
        zs = sym (filled_none 0 (λ q. (g q).z) r.zs) t;
      }

  pub one_more : (count : ℕ) (g : ℕ → Vec3) {now : PointRow} {p : Vec3} → now ≡ with_points count g r → p ≡ g count
      → with_point now count p ≡ with_points (count + 1) g r
  one_more count g so_far value =
      let xs = front_store count (λ q. (g q).x) r.xs (ap (λ (w : PointRow). w.xs) so_far) (ap (λ (v : Vec3). v.x) value) in
      let ys = front_store count (λ q. (g q).y) r.ys (ap (λ (w : PointRow). w.ys) so_far) (ap (λ (v : Vec3). v.y) value) in
      let zs = front_store count (λ q. (g q).z) r.zs (ap (λ (w : PointRow). w.zs) so_far) (ap (λ (v : Vec3). v.z) value) in
      λ t. record { xs = xs t; ys = ys t; zs = zs t }

  pub same_points : (count : ℕ) (f g : ℕ → Vec3) → ((q : ℕ) → q < count → f q ≡ g q) → with_points count f r ≡ with_points count g r
  same_points count f g same =
      λ t. record {
        xs = filled_same 0 count (λ q. (f q).x) (λ q. (g q).x) r.xs (λ q from below. ap (λ (v : Vec3). v.x) (same q (omega arith))) t;
        ys = filled_same 0 count (λ q. (f q).y) (λ q. (g q).y) r.ys (λ q from below. ap (λ (v : Vec3). v.y) (same q (omega arith))) t;
        zs = filled_same 0 count (λ q. (f q).z) (λ q. (g q).z) r.zs (λ q from below. ap (λ (v : Vec3). v.z) (same q (omega arith))) t;
      }
