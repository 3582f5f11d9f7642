-- The part that a line spells, and its bits where it is a constant.
use Rattle.std.specs.Prelude.{ℕ, List, [], ◌∷◌, Float, get_or}
use Rattle.std.specs.Float.{binary64}
use Rattle.std.specs.Float.Ieee.{of_bits}
use Rattle.geometry.specs.Values.{vec3}
use Rattle.model.specs.declared.Part.{Part}
use Rattle.model.specs.declared.Part.TheVariants.{Constant, Sphere, Plane, Min, Max, Add, Sub, Neg}
use Rattle.forms.specs.Forms.{Line, off, line, read_form}
use Rattle.job_text.specs.Lines.{limit, PartKind, const, sphere, plane, min, max, add, sub, neg, part_form, part_kinds}

-- the number at a place of a line, and as a float
abbrev pub word : List ℕ → ℕ → ℕ
word xs i = get_or xs i 0

abbrev pub float_of : ℕ → Float
float_of b = of_bits binary64 b

abbrev pub real : List ℕ → ℕ → Float
real xs i = float_of (word xs i)

-- the part of a kind with a line's numbers; inputs are the numbers of part lines (rule T5)
unfoldable pub part_from : PartKind → List ℕ → Part
part_from const xs = Constant (real xs 0)
part_from sphere xs = Sphere (vec3 (real xs 0) (real xs 1) (real xs 2)) (real xs 3)
part_from plane xs = Plane (vec3 (real xs 0) (real xs 1) (real xs 2)) (real xs 3)
part_from min xs = Min (word xs 0) (word xs 1)
part_from max xs = Max (word xs 0) (word xs 1)
part_from add xs = Add (word xs 0) (word xs 1)
part_from sub xs = Sub (word xs 0) (word xs 1)
part_from neg xs = Neg (word xs 0)

-- the bits of a constant as they are written, 0 for other parts (rules F14 and T8)
unfoldable pub pattern_from : PartKind → List ℕ → ℕ
pattern_from const xs = word xs 0
pattern_from sphere xs = 0
pattern_from plane xs = 0
pattern_from min xs = 0
pattern_from max xs = 0
pattern_from add xs = 0
pattern_from sub xs = 0
pattern_from neg xs = 0

-- a part line as it is written: its kind and its numbers
pub record Spelt : Type 0 where
  pub kind : PartKind
  pub numbers : List ℕ

-- what a text begins with: no part line, or one with the text after it
pub data PartLine : Type 0 where
  none : PartLine
  part : Spelt → List ℕ → PartLine

-- a line of kind k, and another reading where the text is off its form
unfoldable pub or_part : PartKind → Line → PartLine → PartLine
or_part k off other = other
or_part k (line xs t) other = part (record { kind = k; numbers = xs }) t

-- the first of some kinds whose form the text begins with (rule T5)
unfoldable pub part_among : List PartKind → List ℕ → PartLine
part_among [] t = none
part_among (k ∷ ks) t = or_part k (read_form limit (part_form k) t) (part_among ks t)

-- a part line of any kind (rule T5)
abbrev pub read_part : List ℕ → PartLine
read_part t = part_among part_kinds t
