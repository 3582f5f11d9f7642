-- The octet walker: what it holds (rule W8).
use Rattle.std.specs.Prelude.{List, Float}
use Rattle.std.specs.Borrow.{Bor}
use Rattle.geometry.specs.declared.Vec3i.{Vec3i}
use Rattle.dense_field.specs.declared.walker.DenseCellValueIterator.{DenseCellValueIterator}

-- a walker over values by reference, of a field of n points, that stands at cell c (rule W8)
abbrev pub walker_at : Bor (List Float) → Vec3i → Vec3i → DenseCellValueIterator
walker_at values n c = record { «data» = values; current = c; point_count = n }
