-- How many elements of each slice a list lends: as many as its line says, at most 1,024, and 8,192 of the store.
use Rattle.std.specs.Prelude.{◌≡◌, ℕ, ◌%◌, min, if◌then◌else◌, List, ◌==◌, slice_index, slice_set, from_bits}
use Rattle.std.specs.Float.{binary64}
use Rattle.arrayvec.specs.ArrayVec.{array_vec_len}
use Rattle.sparse_cases.specs.declared.lent.Slices.{Slices}

pub record LentBy (line : List ℕ) (s : Slices) : Type 0 where
  pub kinds : array_vec_len s.kinds ≡ min (slice_index line 0) 1024
  pub numbers : array_vec_len s.numbers ≡ min (slice_index line 1) 1024
  pub places : array_vec_len s.places ≡ min (slice_index line 2) 1024
  pub store : array_vec_len s.store ≡ min (slice_index line 3) 8192
  pub corners : array_vec_len s.corners ≡ min (slice_index line 4) 1024

-- one of the slices, by its number, with the element at a place set, if it has that place
abbrev pub poked : {A : Type 0} → ℕ → List ℕ → List A → A → List A
poked slice line xs x = if slice_index line 0 == slice then slice_set xs (slice_index line 1) x else xs

pub record Poked (line : List ℕ) (old new : Slices) : Type 0 where
  pub kinds : new.kinds.items ≡ poked 0 line old.kinds.items (slice_index line 2 % 256)
  pub numbers : new.numbers.items ≡ poked 1 line old.numbers.items (from_bits binary64 (slice_index line 2))
  pub places : new.places.items ≡ poked 2 line old.places.items (min (slice_index line 2) 4294967295)
  pub store : new.store.items ≡ poked 3 line old.store.items (from_bits binary64 (slice_index line 2))
  pub corners : new.corners.items ≡ poked 4 line old.corners.items (from_bits binary64 (slice_index line 2))
