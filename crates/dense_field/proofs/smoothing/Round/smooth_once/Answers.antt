-- The slabs stand one behind another.
use Rattle.std.proofs.Common.{◌≡◌, ℕ, ◌+◌, ◌*◌, length, sym, ap, ◌∙◌, arith, rules}
use Rattle.lists.specs.Filled.{filled}
use Rattle.lists.proofs.Filling.{filled_none, filled_length, filled_done, filled_more}
use Rattle.dense_field.specs.Smoothing.{smoothed_at}
use Rattle.dense_field.proofs.SmoothingLaws.{all_slabs}
use Rattle.dense_field.proofs.smoothing.Round.smooth_once.Goals as goal

pub loop-k-init : goal.loop-k-init
loop-k-init c =
    let a = c.args in
    let none : 0 ≡ 0 * (a.self.now.n.i * a.self.now.n.j) = omega arith in
    (search rules, filled_done _ _ _ (sym (filled_none _ _ _)) none)

pub loop-k-preserved : goal.loop-k-preserved
loop-k-preserved c =
    let a = c.args in
    let slab = a.self.now.n.i * a.self.now.n.j in
    let more : c.loop-k.k * slab + slab ≡ (c.loop-k.k + 1) * slab = omega arith in
    let place : c.loop-k.k * slab ≡ 0 + c.loop-k.k * slab = omega arith in
    let done = c.smooth_slab.ensures in (
      ap length done ∙ filled_length _ _ _ _ ∙ c.loop-k.invariant.0,
      filled_more _ _ _ _ _ c.loop-k.invariant.1 (done ∙ ap (λ (p : ℕ). filled p slab (smoothed_at a.self.now.n a.self.now.factor a.self.now.old.now) c.loop-k.new) place) more,
    )

pub returns : goal.returns
returns c =
    let a = c.args in
    all_slabs a.self.now.n a.self.now.factor a.self.now.old.now _ a.new.now (omega arith) (omega arith) c.loop-k.invariant.1
