-- The text of a job (rules T4 to T6).
use Rattle.std.specs.Prelude.{ℕ, ◌-◌, ◌≤◌, ◌≡◌, List, [], ◌∷◌, ◌++◌, map, T, length, take, drop, replicate, Float}
use Rattle.std.specs.Float.{binary64}
use Rattle.std.specs.Float.Ieee.{fits, to_bits}
use Rattle.float.specs.Zero.{plus_zero}
use Rattle.geometry.specs.declared.Vec3.{Vec3}
use Rattle.model.specs.declared.ModelComponent.{ModelComponent}
use Rattle.model.specs.declared.Part.{Part}
use Rattle.model.specs.declared.Part.TheVariants.{Constant, Sphere, Plane, Min, Max, Add, Sub, Neg}
use Rattle.model.specs.Part.{part_in}
use Rattle.input.specs.declared.Input.{Input}
use Rattle.forms.specs.Forms.{spell}
use Rattle.job_text.specs.Lines.{limit, bounds_form, cell_form, blocks_form, band_form, PartKind, const, sphere, plane, min, max, add, sub, neg, part_form}
use Rattle.job_text.specs.Parts.{Spelt}
use Rattle.job_text.specs.Reading.{Written}

-- part lines, one after the other
unfoldable pub parts_text : List Spelt → List ℕ
parts_text [] = []
parts_text (s ∷ ss) = spell (part_form s.kind) s.numbers ++ parts_text ss

-- the text of a job as it is written
unfoldable pub text_of : Written → List ℕ
text_of w =
    spell bounds_form w.bounds
    ++ (spell cell_form w.cell ++ (spell blocks_form w.blocks ++ (spell band_form w.band ++ parts_text w.parts)))

-- ---- the text of an input: floats by their bits (rules T1 and F14)

spelt : PartKind → List ℕ → Spelt
spelt k xs = record { kind = k; numbers = xs }

-- a part as its line has it (rule T5)
unfoldable pub spelt_part : Part → Spelt
unfolding spelt
spelt_part (Constant w) = spelt const (to_bits binary64 w ∷ [])
spelt_part (Sphere c r) = spelt sphere (to_bits binary64 c.x ∷ to_bits binary64 c.y ∷ to_bits binary64 c.z ∷ to_bits binary64 r ∷ [])
spelt_part (Plane n d) = spelt plane (to_bits binary64 n.x ∷ to_bits binary64 n.y ∷ to_bits binary64 n.z ∷ to_bits binary64 d ∷ [])
spelt_part (Min a b) = spelt min (a ∷ b ∷ [])
spelt_part (Max a b) = spelt max (a ∷ b ∷ [])
spelt_part (Add a b) = spelt add (a ∷ b ∷ [])
spelt_part (Sub a b) = spelt sub (a ∷ b ∷ [])
spelt_part (Neg a) = spelt neg (a ∷ [])

-- an input as its lines have it (rules T4 and T5)
unfoldable pub written_input : Input → Written
written_input i =
    let g = i.grid in
    let b = g.bounds in
    record {
      bounds = map (to_bits binary64) (b.min.x ∷ b.min.y ∷ b.min.z ∷ b.max.x ∷ b.max.y ∷ b.max.z ∷ []);
      cell = to_bits binary64 g.cell ∷ [];
      blocks = g.inner ∷ g.leaf ∷ [];
      band = to_bits binary64 i.band.min ∷ to_bits binary64 i.band.max ∷ [];
      parts = map spelt_part (map part_in (take i.model.count i.model.parts));
    }

unfoldable pub input_text : Input → List ℕ
input_text i = text_of (written_input i)

-- ---- the inputs that a text can spell: floats of 64 bits, numbers of 32

abbrev pub Double : Float → Type 0
Double x = T (fits binary64 x)

abbrev pub Doubles : Vec3 → Type 0
Doubles v = Double v.x × Double v.y × Double v.z

abbrev pub Words : (a b : ℕ) → Type 0
Words a b = (a ≤ limit) × (b ≤ limit)

unfoldable pub FitsPart : Part → Type 0
FitsPart (Constant w) = Double w
FitsPart (Sphere c r) = Doubles c × Double r
FitsPart (Plane n d) = Doubles n × Double d
FitsPart (Min a b) = Words a b
FitsPart (Max a b) = Words a b
FitsPart (Add a b) = Words a b
FitsPart (Sub a b) = Words a b
FitsPart (Neg a) = a ≤ limit

unfoldable pub FitsParts : List ModelComponent → Type 0
FitsParts [] = Unit
FitsParts (c ∷ cs) = FitsPart c.part × FitsParts cs

-- parts beyond the count are constants +0
pub record FitsInput (i : Input) : Type 0 where
  pub min : Doubles i.grid.bounds.min
  pub max : Doubles i.grid.bounds.max
  pub cell : Double i.grid.cell
  pub blocks : Words i.grid.inner i.grid.leaf
  pub least : Double i.band.min
  pub most : Double i.band.max
  pub parts : FitsParts (take i.model.count i.model.parts)
  pub array : length i.model.parts ≡ 64
  pub count : i.model.count ≤ 64
  pub rest : drop i.model.count i.model.parts ≡ replicate (64 - i.model.count) (record { part = Constant plus_zero })
