-- What the first of the numbers that are left stand for. Past the last each is 0.
use Rattle.std.specs.Prelude.{ℕ, ◌+◌, min, List, slice_index, Float, from_bits}
use Rattle.std.specs.Float.{binary64}
use Rattle.geometry.specs.declared.Vec3.{Vec3}
use Rattle.geometry.specs.declared.Vec3i.{Vec3i}
use Rattle.geometry.specs.declared.BoundingBox.{BoundingBox}
use Rattle.grid.specs.declared.Grid.{Grid}
use Rattle.input.specs.declared.Lengths.{Lengths}

-- a number of 32 bits; a larger one counts as the largest
abbrev pub short_at : List ℕ → ℕ → ℕ
short_at xs i = min (slice_index xs i) 4294967295

-- the float with these bits
abbrev pub float_at : List ℕ → ℕ → Float
float_at xs i = from_bits binary64 (slice_index xs i)

abbrev pub vector_at : List ℕ → ℕ → Vec3
vector_at xs i = record { x = float_at xs i; y = float_at xs (i + 1); z = float_at xs (i + 2) }

-- the indices or counts along the axes
abbrev pub indices_at : List ℕ → ℕ → Vec3i
indices_at xs i = record { i = slice_index xs i; j = slice_index xs (i + 1); k = slice_index xs (i + 2) }

abbrev pub box_at : List ℕ → ℕ → BoundingBox
box_at xs i = record { min = vector_at xs i; max = vector_at xs (i + 3) }

-- the lengths of the five slices
abbrev pub lengths_at : List ℕ → ℕ → Lengths
lengths_at xs i = record {
  kinds = slice_index xs i;
  numbers = slice_index xs (i + 1);
  places = slice_index xs (i + 2);
  store = slice_index xs (i + 3);
  corners = slice_index xs (i + 4);
}

-- a grid: its bounds, its cell, its blocks
abbrev pub grid_at : List ℕ → ℕ → Grid
grid_at xs i = record { bounds = box_at xs i; cell = float_at xs (i + 6); inner = short_at xs (i + 7); leaf = short_at xs (i + 8) }
