-- What the schedule uses of an input. Boxes and models do not occur here.
use Rattle.std.specs.Prelude.{ℕ, Bool, Float}
use Rattle.grid.specs.declared.Verdict.{Verdict}

-- All that the schedule uses of an input. A node has `children` children and `corners` corners, a leaf `leaf_points` points.
-- `decide v c read` is what child c of node v becomes, if it is active, where the node's corners hold the values `read`.
pub record Plan : Type 0 where
  pub nodes : ℕ
  pub children : ℕ
  pub corners : ℕ
  pub leaf_points : ℕ
  pub active : ℕ → ℕ → Bool
  pub needed : ℕ → ℕ → Bool
  pub corner_value : ℕ → ℕ → Float
  pub decide : ℕ → ℕ → (ℕ → Float) → Verdict
  pub point_value : ℕ → ℕ → ℕ → Float
