-- What is on its form: numbers of a line, a job as it is written, the first lines of a text; and the first line that is not.
use Rattle.std.specs.Prelude.{ℕ, zero, suc, ◌≤◌, ◌<◌, ◌≡◌, List, [], ◌∷◌, length}
use Rattle.forms.specs.Forms.{fields}
use Rattle.forms.specs.declared.Piece.{Piece}
use Rattle.forms.specs.Fitting.{Fits, Spells}
use Rattle.job_text.specs.Lines.{limit, bounds_form, cell_form, blocks_form, band_form, part_form}
use Rattle.job_text.specs.Parts.{Spelt}
use Rattle.job_text.specs.Reading.{Written}

-- numbers that a line of a form can have, as many as it has
pub record OnForm (form : List Piece) (xs : List ℕ) : Type 0 where
  pub fits : Fits limit form xs
  pub count : length xs ≡ fields form

abbrev pub OnPart : Spelt → Type 0
OnPart s = OnForm (part_form s.kind) s.numbers

unfoldable pub OnParts : List Spelt → Type 0
OnParts [] = Unit
OnParts (s ∷ ss) = OnPart s × OnParts ss

pub record OnForms (w : Written) : Type 0 where
  pub bounds : OnForm bounds_form w.bounds
  pub cell : OnForm cell_form w.cell
  pub blocks : OnForm blocks_form w.blocks
  pub band : OnForm band_form w.band
  pub parts : OnParts w.parts
  pub most : length w.parts ≤ 64

-- ---- lines of a text

-- a text begins with a line of a form
pub record HasForm (form : List Piece) (t rest : List ℕ) : Type 0 where
  pub numbers : List ℕ
  pub spells : Spells limit form numbers t rest

-- a text begins with a part line
pub record HasPart (t rest : List ℕ) : Type 0 where
  pub spelt : Spelt
  pub spells : Spells limit (part_form spelt.kind) spelt.numbers t rest

-- a text begins with what stands in line n of a job's text; line 69 and those after it have nothing (rules T4 to T6)
unfoldable pub HasLine : (n : ℕ) → (t rest : List ℕ) → Type 0
HasLine zero t rest = ⊥
HasLine (suc zero) t rest = HasForm bounds_form t rest
HasLine (suc (suc zero)) t rest = HasForm cell_form t rest
HasLine (suc (suc (suc zero))) t rest = HasForm blocks_form t rest
HasLine (suc (suc (suc (suc zero)))) t rest = HasForm band_form t rest
HasLine (suc (suc (suc (suc (suc p))))) t rest = HasPart t rest × (p < 64)

-- a text begins with the first k lines of a job's text
pub data Begins : ℕ → List ℕ → List ℕ → Type 0 where
  start : {t : List ℕ} → Begins zero t t
  more : {k : ℕ} {t s rest : List ℕ} → Begins k t s → HasLine (suc k) s rest → Begins (suc k) t rest

-- line n is the one that 12 names: the lines before it are on their forms, and it is not. A text may end after its fourth
-- line and after any line from there on (rule T7).
pub record OffFirst (t : List ℕ) (n : ℕ) : Type 0 where
  pub lines : ℕ
  pub number : n ≡ suc lines
  pub rest : List ℕ
  pub before : Begins lines t rest
  pub off : (s : List ℕ) → HasLine (suc lines) rest s → ⊥
  pub some : 4 ≤ lines → 0 < length rest
