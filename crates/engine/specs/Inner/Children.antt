-- What a decision makes of a child.
use Rattle.std.specs.Prelude.{ℕ, ◌+◌, ◌*◌, ◌≤◌, ◌<◌, cond, eqb, set, get_or, length, Option, Some, None}
use Rattle.geometry.specs.declared.BoundingBox.{BoundingBox}
use Rattle.grid.specs.Blocks.{cube}
use Rattle.grid.specs.Boxes.{child_box}
use Rattle.grid.specs.Inner.Octets.{octet_values}
use Rattle.grid.specs.declared.Verdict.{Verdict}
use Rattle.grid.specs.declared.Verdict.TheVariants.{Constant, Leaf}
use Rattle.grid.specs.Kinds.{kind_number}
use Rattle.grid.specs.Pruning.{verdict_of}
use Rattle.schedule.specs.Memory.{Memory}
use Rattle.schedule.specs.Lent.{memory_of}
use Rattle.engine.specs.declared.Task.{Task}
use Rattle.engine.specs.declared.Visit.{Visit}

-- a child's place among all children
abbrev pub place_of : Task → Visit → ℕ
place_of task w = w.node * cube task.grid.inner + w.place

-- its box
abbrev pub box_at : Task → Visit → BoundingBox
box_at task w = child_box w.bounds task.grid.inner w.place

-- the verdict on it, by the corners
abbrev pub verdict_at : Task → Visit → Memory → Verdict
verdict_at task w m = verdict_of task.band.min task.band.max (box_at task w) (octet_values m.corners task.grid.inner w.place)

-- the memory after a verdict (rules S7 and S8)
abbrev pub judged : Task → Visit → Memory → Verdict → Memory
judged task w m (Constant k x) =
    let j = place_of task w in
    memory_of (set m.kinds j (kind_number k)) (set m.numbers j x) m.places m.store m.corners
judged task w m Leaf =
    let j = place_of task w in
    memory_of (set m.kinds j 2) m.numbers (set m.places j w.leaves) m.store m.corners

-- the box of a child that becomes a leaf
abbrev pub if_leaf : BoundingBox → Verdict → Option BoundingBox
if_leaf box (Constant k x) = None
if_leaf box Leaf = Some box

-- the memory after a child's decision; one that is not active is passed over
abbrev pub decided : Task → Visit → Memory → Memory
decided task w m = cond (eqb (get_or m.kinds (place_of task w) 0) 0) m (judged task w m (verdict_at task w m))

-- the box of a new leaf
abbrev pub leaf_box : Task → Visit → Memory → Option BoundingBox
leaf_box task w m = cond (eqb (get_or m.kinds (place_of task w) 0) 0) None (if_leaf (box_at task w) (verdict_at task w m))

-- a child's places are inside the slices
pub record Decidable (task : Task) (w : Visit) (m : Memory) : Type 0 where
  pub below : w.place < cube task.grid.inner
  pub few : place_of task w < 16777216
  pub kinds : place_of task w < length m.kinds
  pub numbers : place_of task w < length m.numbers
  pub places : place_of task w < length m.places
  pub leaves : w.leaves ≤ 16777216
  pub corners : cube (task.grid.inner + 1) ≤ length m.corners
