-- The plan of an input: all that its schedule uses of it (rules S5 to S8).
use Rattle.std.specs.Prelude.{ℕ, ◌+◌, List, map, Float}
use Rattle.geometry.specs.declared.BoundingBox.{BoundingBox}
use Rattle.geometry.specs.Values.{at}
use Rattle.model.specs.declared.ImplicitModel.{ImplicitModel}
use Rattle.model.specs.Part.{part_in}
use Rattle.model.specs.Model.{model_value}
use Rattle.grid.specs.declared.Grid.{Grid}
use Rattle.grid.specs.declared.Verdict.{Verdict}
use Rattle.grid.specs.Blocks.{cube}
use Rattle.grid.specs.Nodes.{nodes_of}
use Rattle.grid.specs.Boxes as boxes
use Rattle.grid.specs.Corners as corners
use Rattle.grid.specs.Leaves.{leaf_point}
use Rattle.grid.specs.Pruning.{verdict_of}
use Rattle.input.specs.declared.Input.{Input}
use Rattle.input.specs.declared.Band.{Band}
use Rattle.schedule.specs.Plan.{Plan}

-- the box of child c of node v (rules G5 and G6)
unfoldable pub box_of : Grid → (v c : ℕ) → BoundingBox
box_of g v c = boxes.child_box (boxes.node_box g v) g.inner c

-- the plan of a grid, of what becomes of a child by its box and its octet, and of a function of points: the grid's rules, in the terms of the
-- schedule (rules G7 to G15)
unfoldable pub plan_with : Grid → (BoundingBox → List Float → Verdict) → (Float → Float → Float → Float) → Plan
plan_with g decide value = record {
  nodes = nodes_of g;
  children = cube g.inner;
  corners = cube (g.inner + 1);
  leaf_points = cube g.leaf;
  active = boxes.active g;
  needed = λ v i. corners.needed g.inner (boxes.active g v) i;
  corner_value = λ v i. at value (corners.corner_point (boxes.node_box g v) g.inner i);
  decide = λ v c read. decide (box_of g v c) (map read (corners.octet g.inner c));
  point_value = λ v c p. at value (leaf_point (box_of g v c) g.leaf p);
}

-- what becomes of a child by a band (rules G13, G14 and S7)
abbrev pub decide_by : Band → BoundingBox → List Float → Verdict
decide_by band = verdict_of band.min band.max

-- a model's value at a point (rule M8)
abbrev pub value_of : ImplicitModel → (x y z : Float) → Float
value_of m x y z = model_value (map part_in m.parts) m.count x y z

-- the plan of an input
abbrev pub plan_of : Input → Plan
plan_of i = plan_with i.grid (decide_by i.band) (value_of i.model)
