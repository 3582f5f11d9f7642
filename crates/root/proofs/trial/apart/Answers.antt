-- `apart` meets its contract: where both float comparisons hold the exact square is near.
use native.Mathlib.Omega.{arith}
use Rattle.root.proofs.Patterns.{number_bits}
use Rattle.root.proofs.SquareNear.{square_near}
use Rattle.root.proofs.trial.apart.Goals as goal
use Rattle.root.proofs.trial.apart.Goals.{then-low-square, else-low-square, then-square-high, else-square-high}

pub float_from_bits-r : goal.float_from_bits-r
float_from_bits-r c = number_bits _ (omega arith)

pub float_from_bits-low : goal.float_from_bits-low
float_from_bits-low c = number_bits _ (omega arith)

pub float_from_bits-high : goal.float_from_bits-high
float_from_bits-high c = number_bits _ (omega arith)

pub returns : goal.returns
returns c =
    let g = c.args.guess in
    elim c.if-low-square.branch [
      | then-low-square v ↦ elim c.if-square-high.branch [
        | then-square-high w ↦ (omega (arith, v.below-is, w.above-is), λ z. square_near _ c.args.operand.reduced _ g.least g.most v.if-low-square.true w.if-square-high.true)
        | else-square-high w ↦ (omega (arith, v.below-is, w.above-is), λ z. absurd (omega (arith, v.below-is, w.above-is)))
      ]
      | else-low-square v ↦ elim c.if-square-high.branch [
        | then-square-high w ↦ (omega (arith, v.below-is, w.above-is), λ z. absurd (omega (arith, v.below-is, w.above-is)))
        | else-square-high w ↦ (omega (arith, v.below-is, w.above-is), λ z. absurd (omega (arith, v.below-is, w.above-is)))
      ]
    ]
