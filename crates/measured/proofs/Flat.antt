-- A field with an axis of 2 points has no interior point, so smoothing changes nothing.
use mathlib.Core.Path.{◌≡◌, refl, sym, ap, ◌∙◌, subst}
use mathlib.Core.Bool.{Bool, true, ◌||◌, or-true}
use mathlib.Core.List.{List}
use Prim.Native.Nat.{ℕ, zero, suc, ◌*◌, ◌/◌, ◌%◌, ◌<◌}
use native.Mathlib.Nat.{mod-lt, mul-pos, mul_comm, div-lt_iff_lt-mul, zero-mul, mul-zero}
use native.Mathlib.Omega.{arith}
use lib.ListN.{length, get_or}
use lib.Seq.{ext_get_or}
use lib.Ieee.{Float}
use Rattle.lists.specs.Tabulate.{tabulate}
use Rattle.lists.proofs.Tables.{length_tabulate, get_d_tabulate}
use Rattle.float.specs.Zero.{plus_zero}
use Rattle.geometry.specs.declared.Vec3i.{Vec3i}
use Rattle.geometry.specs.Index.{indices_of}
use Rattle.dense_field.specs.Field.{points_of, on_edge, outside}
use Rattle.dense_field.specs.Smoothing.{smoothed_at, smoothed_once, smoothed}
use Rattle.measured.specs.Measured.{OfTwo, along_x, along_y, along_z}

-- an index below 2 is the first or the last of two
edge_of_two : (i : ℕ) → i < 2 → on_edge i 2 ≡ true
unfolding on_edge
edge_of_two zero h = refl
edge_of_two (suc zero) h = refl
edge_of_two (suc (suc i)) h = absurd (let f : ⊥ = omega arith in f)

on_two : (i n : ℕ) → n ≡ 2 → i < n → on_edge i n ≡ true
on_two i n e h = ap (on_edge i) e ∙ edge_of_two i (subst (λ (m : ℕ). i < m) e h)

positive_x : (a b c p : ℕ) → p < a * b * c → 0 < a
positive_x zero b c p h = absurd (let z : zero * b * c ≡ 0 = ap (λ (x : ℕ). x * c) (zero-mul b) ∙ zero-mul c in let f : ⊥ = omega arith in f)
positive_x (suc a) b c p h = omega arith

positive_y : (a b c p : ℕ) → p < a * b * c → 0 < b
positive_y a zero c p h = absurd (let z : a * zero * c ≡ 0 = ap (λ (x : ℕ). x * c) (mul-zero a) ∙ zero-mul c in let f : ⊥ = omega arith in f)
positive_y a (suc b) c p h = omega arith

no_interior : (n : Vec3i) (p : ℕ) → OfTwo n → p < points_of n → outside n (indices_of p n.i n.j) ≡ true
unfolding outside indices_of
no_interior n p (along_x e) h =
    rw (on_two (p % (n.i * n.j) % n.i) n.i e (mod-lt (p % (n.i * n.j)) (positive_x n.i n.j n.k p h))) refl
no_interior n p (along_y e) h =
    let x = positive_x n.i n.j n.k p h in
    let y = positive_y n.i n.j n.k p h in
    let below : p % (n.i * n.j) < n.j * n.i = subst (λ (m : ℕ). p % (n.i * n.j) < m) (mul_comm n.i n.j) (mod-lt p (mul-pos x y)) in
    let two = on_two (p % (n.i * n.j) / n.i) n.j e ((div-lt_iff_lt-mul x).1 below) in
    ap (λ (b : Bool). on_edge (p % (n.i * n.j) % n.i) n.i || b || on_edge (p / (n.i * n.j)) n.k) two
    ∙ ap (λ (b : Bool). b || on_edge (p / (n.i * n.j)) n.k) (or-true (on_edge (p % (n.i * n.j) % n.i) n.i))
no_interior n p (along_z e) h =
    let x = positive_x n.i n.j n.k p h in
    let y = positive_y n.i n.j n.k p h in
    let below : p < n.k * (n.i * n.j) = subst (λ (m : ℕ). p < m) (mul_comm (n.i * n.j) n.k) h in
    let two = on_two (p / (n.i * n.j)) n.k e ((div-lt_iff_lt-mul (mul-pos x y)).1 below) in
    ap (λ (b : Bool). on_edge (p % (n.i * n.j) % n.i) n.i || on_edge (p % (n.i * n.j) / n.i) n.j || b) two
    ∙ or-true (on_edge (p % (n.i * n.j) % n.i) n.i || on_edge (p % (n.i * n.j) / n.i) n.j)

-- a point on the outside stays
stays : (n : Vec3i) (f : Float) (vs : List Float) (p : ℕ) → outside n (indices_of p n.i n.j) ≡ true → smoothed_at n f vs p ≡ get_or vs p plus_zero
unfolding smoothed_at
stays n f vs p o = rw o refl

once_same : (n : Vec3i) (f : Float) (vs : List Float) → OfTwo n → length vs ≡ points_of n → smoothed_once n f vs ≡ vs
unfolding smoothed_once
once_same n f vs two l =
    ext_get_or plus_zero (tabulate (points_of n) (smoothed_at n f vs)) vs (length_tabulate (points_of n) (smoothed_at n f vs) ∙ sym l)
    (λ p h.
    let below : p < points_of n = subst (λ (m : ℕ). p < m) (length_tabulate (points_of n) (smoothed_at n f vs)) h in
    get_d_tabulate (points_of n) (smoothed_at n f vs) p plus_zero below ∙ stays n f vs p (no_interior n p two below))

pub two_stays : (n : Vec3i) (f : Float) (rounds : ℕ) (vs : List Float) → OfTwo n → length vs ≡ points_of n → smoothed n f rounds vs ≡ vs
unfolding smoothed
two_stays n f zero vs two l = refl
two_stays n f (suc rounds) vs two l =
    ap (smoothed_once n f) (two_stays n f rounds vs two l) ∙ once_same n f vs two l
