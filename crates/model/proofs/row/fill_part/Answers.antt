-- Each arm fills the row of its own sort of part.
use Rattle.std.proofs.Common.{rules, ◌≡◌, ◌∙◌, sym, refl, ap, length, true, ◌&&◌}
use lib.Dec.{ltb}
use lib.Ieee.{binary64, add, sub, neg}
use Rattle.float.specs.Select.{min_of, max_of}
use Rattle.model.specs.Part.{part_value, inputs_below}
use Rattle.model.specs.Inner.Lanes.{points_lent}
use Rattle.model.specs.declared.Part.TheVariants.{Constant, Sphere, Plane, Min, Max, Add, Sub, Neg}
use Rattle.model.proofs.Rows.{row_same}
use Rattle.model.proofs.PartRow.{row_late, row_is, row_two, input}
use Rattle.model.proofs.row.fill_part.Goals as goal

pub returns-then-not-inputs_below : goal.returns-then-not-inputs_below
returns-then-not-inputs_below c =
    let a = c.args in
    row_late a.earlier.now a.p (length a.row.now) (points_lent a.points.now) a.part (sym c.inputs_below.ensures ∙ c.if-not-inputs_below.true) (search rules ∙ row_same _ refl)

pub returns-in-Constant : goal.returns-in-Constant
unfolding part_value inputs_below
returns-in-Constant c =
    let a = c.args in
    rw c.in-Constant.is
    (row_is a.earlier.now a.p (length a.row.now) (points_lent a.points.now) (Constant c.in-Constant.value) _ refl (λ k h. refl) (search rules ∙ row_same _ refl))

pub returns-in-Sphere : goal.returns-in-Sphere
unfolding part_value inputs_below
returns-in-Sphere c =
    let a = c.args in
    rw c.in-Sphere.is
    (row_is a.earlier.now a.p (length a.row.now) (points_lent a.points.now) (Sphere c.in-Sphere.centre c.in-Sphere.radius) _ refl (λ k h. refl) c.fill_sphere.ensures)

pub returns-in-Plane : goal.returns-in-Plane
unfolding part_value inputs_below
returns-in-Plane c =
    let a = c.args in
    rw c.in-Plane.is
    (row_is a.earlier.now a.p (length a.row.now) (points_lent a.points.now) (Plane c.in-Plane.normal c.in-Plane.offset) _ refl (λ k h. refl) c.fill_plane.ensures)

pub returns-in-Min : goal.returns-in-Min
unfolding part_value inputs_below
returns-in-Min c =
    let a = c.args in
    let w = c.in-Min in
    let below : (ltb w.a a.p && ltb w.b a.p) ≡ true = ap (inputs_below a.p) (sym w.is) ∙ sym c.inputs_below.ensures ∙ c.if-not-inputs_below.false in
    rw w.is
    (row_two a.earlier.now a.p (length a.row.now) (points_lent a.points.now) (Min w.a w.b) min_of w.a w.b below below (λ k. refl)
    c.input.ensures.lanes c.input-in-Min.ensures.lanes c.fill_two.ensures)

pub returns-in-Max : goal.returns-in-Max
unfolding part_value inputs_below
returns-in-Max c =
    let a = c.args in
    let w = c.in-Max in
    let below : (ltb w.a a.p && ltb w.b a.p) ≡ true = ap (inputs_below a.p) (sym w.is) ∙ sym c.inputs_below.ensures ∙ c.if-not-inputs_below.false in
    rw w.is
    (row_two a.earlier.now a.p (length a.row.now) (points_lent a.points.now) (Max w.a w.b) max_of w.a w.b below below (λ k. refl)
    c.input-in-Max.ensures.lanes c.input-in-Max-2.ensures.lanes c.fill_two-in-Max.ensures)

pub returns-in-Add : goal.returns-in-Add
unfolding part_value inputs_below
returns-in-Add c =
    let a = c.args in
    let w = c.in-Add in
    let below : (ltb w.a a.p && ltb w.b a.p) ≡ true = ap (inputs_below a.p) (sym w.is) ∙ sym c.inputs_below.ensures ∙ c.if-not-inputs_below.false in
    rw w.is
    (row_two a.earlier.now a.p (length a.row.now) (points_lent a.points.now) (Add w.a w.b) (add binary64) w.a w.b below below (λ k. refl)
    c.input-in-Add.ensures.lanes c.input-in-Add-2.ensures.lanes c.fill_two-in-Add.ensures)

pub returns-in-Sub : goal.returns-in-Sub
unfolding part_value inputs_below
returns-in-Sub c =
    let a = c.args in
    let w = c.in-Sub in
    let below : (ltb w.a a.p && ltb w.b a.p) ≡ true = ap (inputs_below a.p) (sym w.is) ∙ sym c.inputs_below.ensures ∙ c.if-not-inputs_below.false in
    rw w.is
    (row_two a.earlier.now a.p (length a.row.now) (points_lent a.points.now) (Sub w.a w.b) (sub binary64) w.a w.b below below (λ k. refl)
    c.input-in-Sub.ensures.lanes c.input-in-Sub-2.ensures.lanes c.fill_two-in-Sub.ensures)

pub returns-in-Neg : goal.returns-in-Neg
unfolding part_value inputs_below
returns-in-Neg c =
    let a = c.args in
    let n = length a.row.now in
    let w = c.in-Neg in
    let below : ltb w.a a.p ≡ true = ap (inputs_below a.p) (sym w.is) ∙ sym c.inputs_below.ensures ∙ c.if-not-inputs_below.false in
    rw w.is
    (row_is a.earlier.now a.p n (points_lent a.points.now) (Neg w.a) _ below
    (λ k h. ap neg (input a.earlier.now a.p n (points_lent a.points.now) w.a k below h c.input-in-Neg.ensures.lanes)) c.fill_neg.ensures)
