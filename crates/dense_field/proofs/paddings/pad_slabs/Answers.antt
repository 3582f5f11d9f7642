-- The slabs stand one behind another.
use Rattle.std.proofs.Common.{◌≡◌, ◌+◌, ◌*◌, length, sym, ap, ◌∙◌, mul_comm, arith, rules}
use Rattle.lists.specs.Filled.{filled}
use Rattle.lists.proofs.Filling.{filled_none, filled_length, filled_done}
use Rattle.dense_field.specs.Padding.{padded_at}
use Rattle.dense_field.proofs.Lending.{as_long}
use Rattle.dense_field.proofs.PadLaws.{pad_more, pad_all}
use Rattle.dense_field.proofs.paddings.pad_slabs.Goals as goal

pub loop-k-init : goal.loop-k-init
loop-k-init c =
    let a = c.args in
    let g = padded_at a.n a.value a.values.now in
    let none : 0 ≡ 0 * (a.n.i * a.n.j) = omega arith in
    (search rules, filled_done 0 g a.values.now (sym (filled_none 0 g a.values.now)) none)

pub pad_slab-requires : goal.pad_slab-requires
pad_slab-requires c =
    let p = c.requires in
    let long = c.loop-k.invariant.0 in record { lent = as_long p long; inside = omega arith }

pub loop-k-preserved : goal.loop-k-preserved
loop-k-preserved c =
    let a = c.args in
    let s = c.loop-k in
    let slab = a.n.i * a.n.j in
    let from : s.k * slab ≡ 0 + s.k * slab = omega arith in
    let padded = c.pad_slab.ensures ∙ ap (λ m. filled m slab (padded_at a.n a.value s.values) s.values) from in
    let next = pad_more a.n a.value a.values.now 0 (s.k * slab) slab {total = (s.k + 1) * slab} s.invariant.1 padded (omega arith) in
    (ap length next ∙ filled_length _ _ _ _, next)

pub returns : goal.returns
returns c =
    let a = c.args in
    let s = c.loop-k in
    let last : s.k ≡ a.n.k = omega arith in
    let whole = filled_done _ _ _ s.invariant.1 (ap (λ m. m * (a.n.i * a.n.j)) last ∙ mul_comm a.n.k (a.n.i * a.n.j)) in
    pad_all a.n a.value a.values.now c.requires.long whole
