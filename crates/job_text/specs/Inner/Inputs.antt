-- The input that read lines give, as the reader's functions state it.
use Rattle.input.specs.declared.Input.{Input}
use Rattle.job_text.specs.Reading.{Written, band_of, grid_of, input_with}

abbrev pub input_of : Written → Input
input_of w = input_with (grid_of w.bounds w.cell w.blocks) (band_of w.band) w.parts
