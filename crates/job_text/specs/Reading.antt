-- What a text is read as: the input that it spells with the bits of its constants (rule T8), or 12 with a line (rules T7 and C12).
use Rattle.std.specs.Prelude.{ℕ, zero, suc, ◌+◌, ◌-◌, List, [], ◌∷◌, ◌++◌, map, length, replicate, Result, Ok, Err}
use Rattle.float.specs.Zero.{plus_zero}
use Rattle.geometry.specs.declared.Vec3.{Vec3}
use Rattle.geometry.specs.Values.{vec3, box}
use Rattle.input.specs.declared.Band.{Band}
use Rattle.grid.specs.declared.Grid.{Grid}
use Rattle.model.specs.declared.ModelComponent.{ModelComponent}
use Rattle.model.specs.declared.Part.TheVariants.{Constant}
use Rattle.input.specs.declared.Input.{Input}
use Rattle.forms.specs.Forms.{Line, off, line, read_form}
use Rattle.job_text.specs.declared.Job.{Job}
use Rattle.job_text.specs.declared.OffForm.{OffForm}
use Rattle.job_text.specs.Lines.{limit, bounds_form, cell_form, blocks_form, band_form}
use Rattle.job_text.specs.Parts.{word, real, part_from, pattern_from, Spelt, PartLine, none, part, read_part}

-- a job as it is written: the numbers of its four lines, and its part lines
pub record Written : Type 0 where
  pub bounds : List ℕ
  pub cell : List ℕ
  pub blocks : List ℕ
  pub band : List ℕ
  pub parts : List Spelt

-- what a text is read as: off its form at a line, or a job (rule T8)
pub data Read : Type 0 where
  off_at : ℕ → Read
  written : Written → Read

pub data Parts : Type 0 where
  off_at : ℕ → Parts
  parts : List Spelt → Parts

-- one part more in front
unfoldable pub with_part : Spelt → Parts → Parts
with_part s (Parts.off_at n) = Parts.off_at n
with_part s (parts ss) = parts (s ∷ ss)

-- a part line with the parts after it; without one, line n is named (rule T7)
unfoldable pub on_part : ℕ → PartLine → (List ℕ → Parts) → Parts
on_part n none next = Parts.off_at n
on_part n (part s t) next = with_part s (next t)

-- the part lines of a whole text, r at most, the first of them line n; whatever follows them is off its form (rule T6)
unfoldable pub read_parts : (r n : ℕ) → List ℕ → Parts
read_parts zero n [] = parts []
read_parts zero n (b ∷ t) = Parts.off_at n
read_parts (suc r) n [] = parts []
read_parts (suc r) n (b ∷ t) = on_part n (read_part (b ∷ t)) (read_parts r (suc n))

-- a line with what follows from it; off its form, line n is named (rule T7)
unfoldable pub on_line : ℕ → Line → (List ℕ → List ℕ → Read) → Read
on_line n off next = Read.off_at n
on_line n (line xs t) next = next xs t

unfoldable pub on_parts : Parts → (List Spelt → Written) → Read
on_parts (Parts.off_at n) make = Read.off_at n
on_parts (parts ss) make = written (make ss)

-- the four lines in their order, then up to 64 parts (rules T4, T6 and T7)
unfoldable pub read_text : List ℕ → Read
read_text text =
    on_line 1 (read_form limit bounds_form text) (λ bounds t1.
    on_line 2 (read_form limit cell_form t1) (λ cell t2.
    on_line 3 (read_form limit blocks_form t2) (λ blocks t3.
    on_line 4 (read_form limit band_form t3) (λ band t4.
    on_parts (read_parts 64 5 t4) (λ ss. record { bounds = bounds; cell = cell; blocks = blocks; band = band; parts = ss })))))

-- ---- the input that is written

abbrev pub component_of : Spelt → ModelComponent
component_of s = record { part = part_from s.kind s.numbers }

-- the parts in their array: those beyond the count, which mean nothing (rule M1), are constants +0
abbrev pub components_of : List Spelt → List ModelComponent
components_of ss = map component_of ss ++ replicate (64 - length ss) (record { part = Constant plus_zero })

-- the bits of the constants as they are written, at their parts' places
abbrev pub patterns_of : List Spelt → List ℕ
patterns_of ss = map (λ s. pattern_from s.kind s.numbers) ss ++ replicate (64 - length ss) 0

-- three floats of a line, from a place on
abbrev pub point_of : List ℕ → ℕ → Vec3
point_of xs i = vec3 (real xs i) (real xs (i + 1)) (real xs (i + 2))

-- the numbers of the first three lines
abbrev pub grid_of : (bounds cell blocks : List ℕ) → Grid
grid_of bounds cell blocks = record {
  bounds = box (point_of bounds 0) (point_of bounds 3);
  cell = real cell 0;
  inner = word blocks 0;
  leaf = word blocks 1;
}

abbrev pub band_of : List ℕ → Band
band_of xs = record { min = real xs 0; max = real xs 1 }

-- an input with these part lines, and the bits of its constants
abbrev pub input_with : Grid → Band → List Spelt → Input
input_with g b ss = record { grid = g; band = b; model = record { parts = components_of ss; count = length ss } }

abbrev pub job_with : Grid → Band → List Spelt → Job
job_with g b ss = record { input = input_with g b ss; patterns = patterns_of ss }

abbrev pub job_of : Written → Job
job_of w = job_with (grid_of w.bounds w.cell w.blocks) (band_of w.band) w.parts

abbrev pub read_job : Job → Result Job OffForm
read_job j = Ok j

abbrev pub off_reading : ℕ → Result Job OffForm
off_reading n = Err (record { line = n })

-- the code's answer: 12 comes before every cause of an input, as there is none yet (rules T8 and C52)
unfoldable pub reading_of : Read → Result Job OffForm
reading_of (Read.off_at n) = off_reading n
reading_of (written w) = read_job (job_of w)
