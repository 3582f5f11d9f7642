-- Padding a stretch of a field: all of an outer slab or row, the two ends of an inner row, and one stretch behind another.
use Rattle.std.proofs.Common.{◌≡◌, ℕ, ◌+◌, ◌-◌, ◌<◌, ◌≤◌, Bool, true, false, cond, eqb, ltb, List, length, get_or, set, sym, refl, ap, ◌∙◌, arith, length-set, get_or-set_other, get_or-set_same, ext_get_or, ltb-false, ltb-true, eqb-true}
use lib.Ieee.{Float}
use borrow.Author.Tests.{eqb-false}
use Rattle.lists.specs.Filled.{filled}
use Rattle.lists.proofs.Filling.{filled_length, filled_same, filled_more, get_or_filled, get_or_unfilled, filled_all}
use Rattle.float.specs.Zero.{plus_zero}
use Rattle.geometry.specs.declared.Vec3i.{Vec3i}
use Rattle.dense_field.specs.Field.{points_of, outside}
use Rattle.dense_field.specs.Padding.{padded, padded_at}
use Rattle.dense_field.proofs.Edges.{row_from, point_at, edge_first, edge_last, row_end, row_inner}

module _ (n : Vec3i) (value : Float) where
  module _ (l : List Float) where
    out_value : (p : ℕ) → outside n (point_at n p) ≡ true → value ≡ padded_at n value l p
    unfolding padded_at
    out_value p out = rw out refl

    in_value : (p : ℕ) → outside n (point_at n p) ≡ false → get_or l p plus_zero ≡ padded_at n value l p
    unfolding padded_at
    in_value p out = rw out refl

    -- a stretch on the outside
    pub outer_stretch : (at count : ℕ) {x : List Float} → ((q : ℕ) → at ≤ q → q < at + count → outside n (point_at n q) ≡ true)
        → x ≡ filled at count (λ q. value) l → x ≡ filled at count (padded_at n value l) l
    outer_stretch at count out set_all =
        set_all ∙ filled_same at count (λ q. value) (padded_at n value l) l (λ q from below. out_value q (out q from below))

    -- an inner row: its two ends are set
    module _ (j k : ℕ) (wide : 0 < n.i) (j_above : 0 < j) (j_below : j + 1 < n.j) (k_above : 0 < k) (k_below : k + 1 < n.k)
        (long : row_from n j k + n.i ≤ length l) where
      abbrev at : ℕ
      at = row_from n j k

      abbrev last : ℕ
      last = at + (n.i - 1)

      abbrev after : List Float
      after = set (set l at value) last value

      abbrev wanted : List Float
      wanted = filled at n.i (padded_at n value l) l

      abbrev Same : ℕ → Type 0
      Same q = get_or after q plus_zero ≡ get_or wanted q plus_zero

      in_stretch : (q : ℕ) → at ≤ q → q < at + n.i → q < length l → padded_at n value l q ≡ get_or wanted q plus_zero
      in_stretch q from below h = sym (get_or_filled at n.i (padded_at n value l) l q plus_zero from below h)

      apart : (q : ℕ) → (q ≡ last → ⊥) → (q ≡ at → ⊥) → get_or after q plus_zero ≡ get_or l q plus_zero
      apart q not_last not_first =
          get_or-set_other (set l at value) last q value plus_zero not_last ∙ get_or-set_other l at q value plus_zero not_first

      at_first : (q : ℕ) → q < length l → (q ≡ last → ⊥) → q ≡ at → get_or after q plus_zero ≡ value
      at_first q h not_last e =
          get_or-set_other (set l at value) last q value plus_zero not_last
          ∙ ap (λ (p : ℕ). get_or (set l p value) q plus_zero) (sym e)
          ∙ get_or-set_same l q value plus_zero h

      at_last : (q : ℕ) → q < length l → q ≡ last → get_or after q plus_zero ≡ value
      at_last q h e =
          ap (λ (p : ℕ). get_or (set (set l at value) p value) q plus_zero) (sym e)
          ∙ get_or-set_same (set l at value) q value plus_zero (omega (arith, length-set l at value))

      by_first : (q : ℕ) → at ≤ q → q < at + n.i → q < length l → (q ≡ last → ⊥) → (t : Bool) → eqb q at ≡ t → Same q
      by_first q from below h not_last true t =
          let e : q ≡ at = eqb-true q at t in
          let out : outside n (point_at n (at + 0)) ≡ true = row_end n 0 j k (omega arith) (omega arith) (edge_first 0 n.i refl) in
          let same : at + 0 ≡ q = omega arith in
          at_first q h not_last e ∙ out_value q (ap (λ (p : ℕ). outside n (point_at n p)) (sym same) ∙ out) ∙ in_stretch q from below h
      by_first q from below h not_last false t =
          let not_first : q ≡ at → ⊥ = eqb-false q at t in
          let i = q - at in
          let same : at + i ≡ q = omega arith in
          let inner : outside n (point_at n (at + i)) ≡ false = row_inner n i j k (omega arith) (omega arith) j_above j_below k_above k_below in
          apart q not_last not_first
          ∙ in_value q (ap (λ (p : ℕ). outside n (point_at n p)) (sym same) ∙ inner)
          ∙ in_stretch q from below h

      by_last : (q : ℕ) → at ≤ q → q < at + n.i → q < length l → (t : Bool) → eqb q last ≡ t → Same q
      by_last q from below h true t =
          let e : q ≡ last = eqb-true q last t in
          let out = row_end n (n.i - 1) j k (omega arith) (omega arith) (edge_last (n.i - 1) n.i (omega arith)) in
          at_last q h e ∙ out_value q (ap (λ (p : ℕ). outside n (point_at n p)) e ∙ out) ∙ in_stretch q from below h
      by_last q from below h false t = by_first q from below h (eqb-false q last t) (eqb q at) refl

      behind : (q : ℕ) → at ≤ q → q < length l → (t : Bool) → ltb q (at + n.i) ≡ t → Same q
      behind q from h true t = by_last q from (ltb-true q (at + n.i) t) h (eqb q last) refl
      behind q from h false t =
          let past : at + n.i ≤ q = ltb-false q (at + n.i) t in
          apart q (λ e. omega arith) (λ e. omega arith)
          ∙ sym (get_or_unfilled at n.i (padded_at n value l) l q plus_zero (λ f. past))

      by_place : (q : ℕ) → q < length l → (t : Bool) → ltb q at ≡ t → Same q
      by_place q h true t =
          let before : q < at = ltb-true q at t in
          apart q (λ e. omega arith) (λ e. omega arith)
          ∙ sym (get_or_unfilled at n.i (padded_at n value l) l q plus_zero (λ f. omega arith))
      by_place q h false t = behind q (ltb-false q at t) h (ltb q (at + n.i)) refl

      pub inner_row : after ≡ wanted
      inner_row =
          ext_get_or plus_zero after wanted
          (length-set (set l at value) last value ∙ length-set l at value ∙ sym (filled_length at n.i (padded_at n value l) l))
          (λ q h. by_place q (omega (arith, length-set (set l at value) last value, length-set l at value)) (ltb q at) refl)

    -- a stretch right behind one that is padded
    pub pad_more : (at count more : ℕ) {total : ℕ} {x y : List Float} → x ≡ filled at count (padded_at n value l) l
        → y ≡ filled (at + count) more (padded_at n value x) x → count + more ≡ total → y ≡ filled at total (padded_at n value l) l
    unfolding padded_at
    pad_more at count more {x = x} so_far next sum =
        filled_more at count more (padded_at n value l) l so_far
        (next
        ∙ filled_same (at + count) more (padded_at n value x) (padded_at n value l) x
        (λ q from below.
        ap (cond (outside n (point_at n q)) value)
        (ap (λ (z : List Float). get_or z q plus_zero) so_far ∙ get_or_unfilled at count (padded_at n value l) l q plus_zero (λ f. from))))
        sum

    -- all of the field
    pub pad_all : {x : List Float} → length l ≡ points_of n → x ≡ filled 0 (points_of n) (padded_at n value l) l → x ≡ padded n value l
    unfolding padded padded_at
    pad_all long whole = whole ∙ filled_all (points_of n) (padded_at n value l) l plus_zero long
