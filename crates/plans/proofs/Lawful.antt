-- What an input without a cause gives: a lawful plan, enough corners, and slices that hold all its children and points.
use Prim.Native.Nat.{◌*◌}
use mathlib.Core.Path.{◌≡◌, ap}
use native.Mathlib.Nat.{mul-le-mul_right}
use native.Mathlib.Omega.{arith}
use Rattle.grid.specs.Blocks.{cube}
use Rattle.grid.proofs.LimitLaws.{inner_block}
use Rattle.input.specs.declared.Input.{Input}
use Rattle.input.specs.declared.Lengths.{Lengths}
use Rattle.std.specs.Prelude.{Ok}
use Rattle.input.proofs.Clear.{clear}
use Rattle.schedule.specs.Finished.{LongEnough}
use Rattle.schedule.specs.Inputs.{InputsLaws}
use Rattle.schedule.proofs.AfterFacts.{leaves_all_most}
use Rattle.plans.specs.Plan.{plan_with, plan_of, value_of, decide_by}
use Rattle.plans.specs.Sparse.{sparse}
use Rattle.plans.proofs.Plans.{plan_laws_lem, active_all_lem}

-- a lawful plan and enough corners
pub sparse_laws : InputsLaws sparse
unfolding plan_with
sparse_laws = record {
  plan_laws = λ l i none. plan_laws_lem i.grid i.band (value_of i.model) (omega (arith, (inner_block i.grid (clear i l none).two).least));
  enough_corners = λ l i none. (clear i l none).lent.corners;
}

-- slices that hold all children and all leaves' points
pub long_enough : (l : Lengths) (i : Input) → sparse.answer l i ≡ Ok tt → LongEnough (plan_of i) l
unfolding plan_with
long_enough l i none =
    let n = clear i l none in
    let few = mul-le-mul_right (cube i.grid.leaf) (leaves_all_most (plan_of i)) in
    record {
      kinds = n.lent.kinds;
      numbers = n.lent.numbers;
      places = n.lent.places;
      store = omega (arith, n.lent.store, few, ap (λ k. k * cube i.grid.leaf) (active_all_lem i.grid (decide_by i.band) (value_of i.model)));
    }
