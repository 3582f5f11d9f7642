-- Inputs that are one for a job: they differ at most in parts past the count, which count for nothing (rules M1 and L11).
use Rattle.std.specs.Prelude.{ℕ, ◌<◌, ◌≡◌, map}
use Rattle.model.specs.Part.{part_in}
use Rattle.model.specs.Model.{part_of}
use Rattle.input.specs.declared.Input.{Input}

pub record SameInputs (i j : Input) : Type 0 where
  pub grid : i.grid ≡ j.grid
  pub band : i.band ≡ j.band
  pub count : i.model.count ≡ j.model.count
  pub parts : (p : ℕ) → p < i.model.count → part_of (map part_in i.model.parts) p ≡ part_of (map part_in j.model.parts) p
