-- Sampling a run of places: the points of a stretch of one row, and the results at the run's places.
use Rattle.std.proofs.Common.{◌≡◌, ℕ, ◌+◌, ◌-◌, ◌*◌, ◌<◌, ◌≤◌, min, List, length, get_or, sym, refl, ap, ◌∙◌, subst, div-le_self, le-mul_of_pos_right, zero-add, arith}
use native.Mathlib.Nat.{min-eq_left}
use lib.Ieee.{Float, nan}
use Rattle.lists.specs.Filled.{filled}
use Rattle.lists.proofs.Filling.{filled_length, filled_more, filled_same, get_or_filled}
use Rattle.geometry.specs.declared.Vec3.{Vec3}
use Rattle.geometry.specs.declared.Vec3i.{Vec3i}
use Rattle.geometry.specs.declared.PointRow.{PointRow}
use Rattle.geometry.specs.Values.{vec3, vec3i}
use Rattle.geometry.specs.Index.{place_of, indices_of, next_indices}
use Rattle.std.proofs.lemmas.List.{length-replicate}
use Rattle.float.specs.Zero.{plus_zero}
use Rattle.model.specs.declared.Part.{Part}
use Rattle.geometry.specs.PointRow.{no_points, point_in, with_points}
use Rattle.geometry.proofs.Inverse.{indices_of_place, place_of_indices, column_below, line_below}
use Rattle.geometry.proofs.Next.{next_of}
use Rattle.model.specs.Part.{past}
use Rattle.model.specs.Model.{parts_in, parts_value}
use Rattle.model.specs.Row.{model_row}
use Rattle.model.specs.declared.ImplicitModel.{ImplicitModel}
use Rattle.dense_field.specs.Field.{points_of}
use Rattle.dense_field.specs.Inner.Lent.{Lent, Run}
use Rattle.dense_field.specs.Points.{field_point}
use Rattle.dense_field.specs.Inner.Runs.{axis_point, place_point, with_stretch, place_value}
use Rattle.dense_field.specs.declared.sampling.Lattice.{Lattice}
use Rattle.dense_field.proofs.Edges.{point_at}

-- a run within lent values
pub run_in : {n : Vec3i} {at len total : ℕ} → Lent n total → at + len ≤ total → len ≤ 64 → Run n at len
run_in {n} s fits short =
    let area : n.i * n.j ≤ points_of n = le-mul_of_pos_right (n.i * n.j) s.z_above in
    record {
      x_above = s.x_above;
      y_above = s.y_above;
      rows = le-mul_of_pos_right n.i s.y_above;
      area = omega (arith, s.few);
      within = omega (arith, s.few, s.long);
      short = short;
    }

-- the indices of a place: the first two are below their counts, and no slab has a number above the place's own
pub record Indices (n v : Vec3i) (p : ℕ) : Type 0 where
  pub i_in : v.i < n.i
  pub j_in : v.j < n.j
  pub k_most : v.k ≤ p

-- so many points of a row from place p on, of a run that has `last` places then, of `len`
pub record Stretch (n v : Vec3i) (p count last len : ℕ) : Type 0 where
  pub i_in : v.i < n.i
  pub j_in : v.j < n.j
  pub k_most : v.k ≤ p
  pub some : 0 < count
  pub fits : v.i + count ≤ n.i
  pub ends : last ≤ len

module _ (n : Vec3i) (x_above : 0 < n.i) (y_above : 0 < n.j) where
  of_place : (p : ℕ) → Indices n (point_at n p) p
  unfolding indices_of
  of_place p =
      record {
        i_in = column_below p n.i n.j x_above y_above;
        j_in = line_below p n.i n.j x_above y_above;
        k_most = div-le_self p _;
      }

  pub indices : (p : ℕ) {v : Vec3i} → v ≡ point_at n p → Indices n v p
  indices p e = subst (λ (v : Vec3i). Indices n v p) (sym e) (of_place p)

  -- the stretch that comes next in a run
  pub next_stretch : {at len : ℕ} → Run n at len → (t : ℕ) {v : Vec3i} {m : ℕ} → v ≡ point_at n (at + t) → t < len → m ≡ min (n.i - v.i) (len - t)
      → Stretch n v (at + t) m (t + m) len
  next_stretch {at} {len} r t {v} e more least =
      let w = indices (at + t) e in
      record {
        i_in = w.i_in;
        j_in = w.j_in;
        k_most = w.k_most;
        some = omega arith;
        fits = omega arith;
        ends = omega arith;
      }

  -- s points on in a row
  row_point : (p s : ℕ) {v : Vec3i} → v ≡ point_at n p → v.i + s < n.i → vec3i (v.i + s) v.j v.k ≡ point_at n (p + s)
  unfolding place_of
  row_point p s {v} e below =
      let here : place_of v.i v.j v.k n.i n.j ≡ p =
      ap (λ (w : Vec3i). place_of w.i w.j w.k n.i n.j) e ∙ place_of_indices n.i n.j p in
      let there : place_of (v.i + s) v.j v.k n.i n.j ≡ p + s = omega arith in
      sym (indices_of_place n.i n.j (v.i + s) v.j v.k below (indices p e).j_in) ∙ ap (point_at n) there

  -- the point after a stretch of a row
  pub after_stretch : (p count : ℕ) {v last next : Vec3i} → v ≡ point_at n p → 0 < count → v.i + count ≤ n.i
      → last ≡ vec3i (v.i + (count - 1)) v.j v.k → next ≡ next_indices last n.i n.j → next ≡ point_at n (p + count)
  after_stretch p count e some fits at_last after =
      let one : p + (count - 1) + 1 ≡ p + count = omega arith in
      after
      ∙ ap (λ (w : Vec3i). next_indices w n.i n.j) (at_last ∙ row_point p (count - 1) e (omega arith))
      ∙ next_of n.i n.j x_above y_above (p + (count - 1))
      ∙ ap (point_at n) one

-- one stretch more of a run's points
module _ (f : Lattice) (x_above : 0 < f.n.i) (y_above : 0 < f.n.j) (at t count : ℕ) where
  abbrev wanted : ℕ → Vec3
  wanted q = place_point f (at + q)

  along : (g h : ℕ → Float) (l : List Float) {so_far next : List Float} → so_far ≡ filled 0 t g l → next ≡ filled t count h so_far
      → ((q : ℕ) → t ≤ q → q < t + count → h q ≡ g q) → next ≡ filled 0 (t + count) g l
  along g h l {so_far} before next same =
      filled_more 0 t count g l before
      (next ∙ filled_same t count h g so_far same ∙ ap (λ (m : ℕ). filled m count g so_far) (sym (zero-add t)))
      refl

  pub more_points : (r : PointRow) {v : Vec3i} {so_far : PointRow} → v ≡ point_at f.n (at + t) → v.i + count ≤ f.n.i
      → so_far ≡ with_points t wanted r → with_stretch f v t count so_far ≡ with_points (t + count) wanted r
  unfolding field_point
  more_points r {v} {so_far} here fits before =
      let stands : (q : ℕ) → t ≤ q → q < t + count → field_point f.origin f.cell (vec3i (v.i + (q - t)) v.j v.k) ≡ wanted q = λ q from below.
      let there : at + t + (q - t) ≡ at + q = omega arith in
      ap (field_point f.origin f.cell) (row_point f.n x_above y_above (at + t) (q - t) here (omega arith) ∙ ap (point_at f.n) there) in
      let xs = along (λ q. (wanted q).x) (λ q. axis_point f.origin.x f.cell (v.i + (q - t))) r.xs (ap (λ (w : PointRow). w.xs) before) refl
      (λ q from below. ap (λ (p : Vec3). p.x) (stands q from below)) in
      let ys = along (λ q. (wanted q).y) (λ q. axis_point f.origin.y f.cell v.j) r.ys (ap (λ (w : PointRow). w.ys) before) refl
      (λ q from below. ap (λ (p : Vec3). p.y) (stands q from below)) in
      let zs = along (λ q. (wanted q).z) (λ q. axis_point f.origin.z f.cell v.k) r.zs (ap (λ (w : PointRow). w.zs) before) refl
      (λ q from below. ap (λ (p : Vec3). p.z) (stands q from below)) in
      λ s. record { xs = xs s; ys = ys s; zs = zs s }

-- a row of 64 points
pub record Long (r : PointRow) : Type 0 where
  pub xs : length r.xs ≡ 64
  pub ys : length r.ys ≡ 64
  pub zs : length r.zs ≡ 64

pub no_points_long : {r : PointRow} → r ≡ no_points → Long r
no_points_long e = record {
  xs = ap (λ (w : PointRow). length w.xs) e ∙ length-replicate 64 plus_zero;
  ys = ap (λ (w : PointRow). length w.ys) e ∙ length-replicate 64 plus_zero;
  zs = ap (λ (w : PointRow). length w.zs) e ∙ length-replicate 64 plus_zero;
}

pub points_long : (count : ℕ) (g : ℕ → Vec3) {r now : PointRow} → now ≡ with_points count g r → Long r → Long now
points_long count g e long = record {
  xs = ap (λ (w : PointRow). length w.xs) e ∙ filled_length _ _ _ _ ∙ long.xs;
  ys = ap (λ (w : PointRow). length w.ys) e ∙ filled_length _ _ _ _ ∙ long.ys;
  zs = ap (λ (w : PointRow). length w.zs) e ∙ filled_length _ _ _ _ ∙ long.zs;
}

-- a row of results stays as long as it was
pub results_long : (parts : List Part) (m len : ℕ) (points : PointRow) (before : List Float) {results : List Float}
    → results ≡ model_row parts m len points before → length before ≡ 64 → length results ≡ 64
unfolding model_row
results_long parts m len points before row long = ap length row ∙ filled_length _ _ _ _ ∙ long

-- the results of a run at its places
module _ (m : ImplicitModel) (f : Lattice) (at len : ℕ) (short : len ≤ 64) where
  set_point : (r : PointRow) → Long r → (q : ℕ) → q < len → point_in (with_points len (λ q. place_point f (at + q)) r) q ≡ place_point f (at + q)
  set_point r long q below =
      let g : ℕ → Vec3 = λ q. place_point f (at + q) in
      let x = get_or_filled 0 len (λ q. (g q).x) r.xs q nan (omega arith) (omega arith) (omega (arith, long.xs)) in
      let y = get_or_filled 0 len (λ q. (g q).y) r.ys q nan (omega arith) (omega arith) (omega (arith, long.ys)) in
      let z = get_or_filled 0 len (λ q. (g q).z) r.zs q nan (omega arith) (omega arith) (omega (arith, long.zs)) in
      λ s. vec3 (x s) (y s) (z s)

  pub run_value : (r : PointRow) → Long r → (before : List Float) → length before ≡ 64 → {points : PointRow} {results : List Float}
      → points ≡ with_points len (λ q. place_point f (at + q)) r
      → results ≡ model_row (parts_in m) (min m.count 64) (min len 64) points before
      → (q : ℕ) → q < len → get_or results q past ≡ place_value m f (at + q)
  unfolding model_row
  run_value r long before size {points} set row q below =
      let cut : min len 64 ≡ len = min-eq_left short in
      let value : Vec3 → Float = λ p. parts_value (parts_in m) (min m.count 64) p.x p.y p.z in
      ap (λ (l : List Float). get_or l q past) row
      ∙ get_or_filled 0 (min len 64) (λ k. value (point_in points k)) before q past (omega arith) (omega arith) (omega arith)
      ∙ ap (λ (w : PointRow). value (point_in w q)) set
      ∙ ap value (set_point r long q below)
