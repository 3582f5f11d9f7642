-- What a text is read as, by how far its four first lines are on their forms.
use mathlib.Core.Path.{◌≡◌, refl, sym, ap, ◌∙◌}
use Prim.Native.Nat.{ℕ}
use native.Mathlib.Omega.{arith}
use mathlib.Core.List.{List}
use lib.ListN.{take}
use lib.Seq.{get_or-take}
use Rattle.input.specs.declared.Band.{Band}
use Rattle.grid.specs.declared.Grid.{Grid}
use Rattle.forms.specs.Forms.{off, line, read_form}
use Rattle.job_text.specs.Lines.{limit, bounds_form, cell_form, blocks_form, band_form}
use Rattle.job_text.specs.Parts.{Spelt}
use Rattle.job_text.specs.Reading.{Written, Read, Parts, parts, read_parts, on_line, on_parts, read_text, grid_of, band_of, reading_of}
use Rattle.std.proofs.Common.{Result}
use Rattle.job_text.specs.declared.Job.{Job}
use Rattle.job_text.specs.declared.OffForm.{OffForm}
use Rattle.job_text.specs.Inner.TextAnswers.{model_reading}

-- a job as it is written, from its lines' numbers
abbrev pub written_with : (bounds cell blocks band : List ℕ) → List Spelt → Written
written_with bounds cell blocks band ss = record { bounds = bounds; cell = cell; blocks = blocks; band = band; parts = ss }

-- the lines' own numbers make the grid and the band
pub grid_own : (bounds cell blocks : List ℕ) → grid_of (take 6 bounds) (take 1 cell) (take 2 blocks) ≡ grid_of bounds cell blocks
grid_own bounds cell blocks =
    rw (
      get_or-take 6 bounds 0 0 (omega arith),
      get_or-take 6 bounds 1 0 (omega arith),
      get_or-take 6 bounds 2 0 (omega arith),
      get_or-take 6 bounds 3 0 (omega arith),
      get_or-take 6 bounds 4 0 (omega arith),
      get_or-take 6 bounds 5 0 (omega arith),
      get_or-take 1 cell 0 0 (omega arith),
      get_or-take 2 blocks 0 0 (omega arith),
      get_or-take 2 blocks 1 0 (omega arith),
    )

pub band_own : (band : List ℕ) → band_of (take 2 band) ≡ band_of band
band_own band = rw (get_or-take 2 band 0 0 (omega arith), get_or-take 2 band 1 0 (omega arith))

pub reading_model : (bounds cell blocks band : List ℕ) (p : Parts)
    → reading_of (on_parts p (written_with bounds cell blocks band)) ≡ model_reading (grid_of bounds cell blocks) (band_of band) p
unfolding reading_of on_parts model_reading
reading_model bounds cell blocks band (Parts.off_at n) = refl
reading_model bounds cell blocks band (parts ss) = refl

module _ (text : List ℕ) where
  pub first_off : read_form limit bounds_form text ≡ off → read_text text ≡ Read.off_at 1
  unfolding read_text on_line
  first_off is = rw is

  module _ (bounds t1 : List ℕ) (one : read_form limit bounds_form text ≡ line bounds t1) where
    pub second_off : read_form limit cell_form t1 ≡ off → read_text text ≡ Read.off_at 2
    unfolding read_text on_line
    second_off is = rw (one, is)

    module _ (cell t2 : List ℕ) (two : read_form limit cell_form t1 ≡ line cell t2) where
      pub third_off : read_form limit blocks_form t2 ≡ off → read_text text ≡ Read.off_at 3
      unfolding read_text on_line
      third_off is = rw (one, two, is)

      module _ (blocks t3 : List ℕ) (three : read_form limit blocks_form t2 ≡ line blocks t3) where
        pub fourth_off : read_form limit band_form t3 ≡ off → read_text text ≡ Read.off_at 4
        unfolding read_text on_line
        fourth_off is = rw (one, two, three, is)

        pub then_parts : (band t4 : List ℕ) → read_form limit band_form t3 ≡ line band t4
            → read_text text ≡ on_parts (read_parts 64 5 t4) (written_with bounds cell blocks band)
        unfolding read_text on_line
        then_parts band t4 four = rw (one, two, three, four)

pub model_same : (p : Parts) {r : Result Job OffForm} {g h : Grid} {b c : Band} → r ≡ model_reading g b p → g ≡ h → b ≡ c → r ≡ model_reading h c p
model_same p is grid band = rw (← grid, ← band) is

-- a text whose four lines are read, and then its parts
pub text_read : (text bounds cell blocks band t1 t2 t3 t4 : List ℕ)
    → read_form limit bounds_form text ≡ line (take 6 bounds) t1
    → read_form limit cell_form t1 ≡ line (take 1 cell) t2
    → read_form limit blocks_form t2 ≡ line (take 2 blocks) t3
    → read_form limit band_form t3 ≡ line (take 2 band) t4
    → model_reading (grid_of bounds cell blocks) (band_of band) (read_parts 64 5 t4) ≡ reading_of (read_text text)
text_read text bounds cell blocks band t1 t2 t3 t4 one two three four =
    sym
    (ap reading_of (then_parts text (take 6 bounds) t1 one (take 1 cell) t2 two (take 2 blocks) t3 three (take 2 band) t4 four)
    ∙ model_same (read_parts 64 5 t4)
    (reading_model (take 6 bounds) (take 1 cell) (take 2 blocks) (take 2 band) (read_parts 64 5 t4))
    (grid_own bounds cell blocks) (band_own band))
