-- AN INPUT COMES BACK: the text of an input is read as the input.
use mathlib.Core.Path.{◌≡◌, refl, ◌∙◌}
use Prim.Native.Nat.{ℕ, ◌≤◌}
use native.Mathlib.Omega.{arith}
use mathlib.Core.List.{List, [], ◌∷◌, ◌++◌, map}
use lib.ListN.{length, take, length-map, length-take, take-append-drop}
use lib.Ieee.{Float, binary64, fits, of_bits, to_bits}
use lib.Ieee.Bits.{of_bits-to_bits, to_bits-lt}
use Rattle.forms.specs.Bytes.{bytes}
use Rattle.forms.specs.Forms.{piece_of, is_field, after, fields}
use Rattle.forms.specs.declared.Piece.{Piece}
use Rattle.forms.specs.declared.Piece.TheVariants.{Hex as hex, Decimal as decimal, Byte as byte}
use Rattle.forms.specs.Fitting.{FitsPiece, Fits}
use Rattle.model.specs.declared.ModelComponent.{ModelComponent}
use Rattle.model.specs.declared.Part.{Part}
use Rattle.model.specs.declared.Part.TheVariants.{Constant, Sphere, Plane, Min, Max, Add, Sub, Neg}
use Rattle.model.specs.Part.{part_in}
use Rattle.input.specs.declared.Input.{Input}
use Rattle.job_text.specs.Lines.{limit}
use Rattle.job_text.specs.Parts.{part_from, Spelt}
use Rattle.job_text.specs.Reading.{component_of, components_of, patterns_of, read_job, read_text, reading_of}
use Rattle.job_text.specs.Inner.Inputs.{input_of}
use Rattle.job_text.specs.Texts.{spelt_part, written_input, input_text, Double, FitsPart, FitsParts, FitsInput}
use Rattle.job_text.specs.OnForm.{OnPart, OnParts, OnForms}
use Rattle.job_text.proofs.Complete.{reading_complete}

-- ---- the numbers fit their forms

past : (bs : List ℕ) (form : List Piece) (xs : List ℕ) → Fits limit form xs → Fits limit (map byte bs ++ form) xs
unfolding Fits FitsPiece after is_field
past [] form xs fits = fits
past (b ∷ bs) form xs fits = (tt, past bs form xs fits)

float : (v : Float) (form : List Piece) (xs : List ℕ) → Double v → Fits limit form xs → Fits limit (hex ∷ form) (to_bits binary64 v ∷ xs)
unfolding Fits FitsPiece after is_field
float v form xs fit fits = (to_bits-lt binary64 v fit, fits)

number : (x : ℕ) (form : List Piece) (xs : List ℕ) → x ≤ limit → Fits limit form xs → Fits limit (decimal ∷ form) (x ∷ xs)
unfolding Fits FitsPiece after is_field
number x form xs fit fits = (fit, fits)

space : (form : List Piece) (xs : List ℕ) → Fits limit form xs → Fits limit (byte 32 ∷ form) xs
space form xs fits = past (32 ∷ []) form xs fits

closed : Fits limit (byte 41 ∷ byte 10 ∷ []) []
unfolding Fits FitsPiece
closed = (tt, (tt, tt))

pub on_part_lem : (p : Part) → FitsPart p → OnPart (spelt_part p)
unfolding FitsPart spelt_part fields is_field piece_of
on_part_lem (Constant w) fit = record { fits = past (bytes "(const ") _ _ (float w _ _ fit closed); count = refl }
on_part_lem (Sphere c r) fit = record {
  fits =
      past (bytes "(sphere ") _ _
      (float _ _ _ fit.0.0
      (space _ _ (float _ _ _ fit.0.1
      (space _ _ (float _ _ _ fit.0.2
      (space _ _ (float _ _ _ fit.1 closed)))))));
  count = refl;
}
on_part_lem (Plane n d) fit = record {
  fits =
      past (bytes "(plane ") _ _
      (float _ _ _ fit.0.0
      (space _ _ (float _ _ _ fit.0.1
      (space _ _ (float _ _ _ fit.0.2
      (space _ _ (float _ _ _ fit.1 closed)))))));
  count = refl;
}
on_part_lem (Min a b) fit = record { fits = past (bytes "(min ") _ _ (number _ _ _ fit.0 (space _ _ (number _ _ _ fit.1 closed))); count = refl }
on_part_lem (Max a b) fit = record { fits = past (bytes "(max ") _ _ (number _ _ _ fit.0 (space _ _ (number _ _ _ fit.1 closed))); count = refl }
on_part_lem (Add a b) fit = record { fits = past (bytes "(add ") _ _ (number _ _ _ fit.0 (space _ _ (number _ _ _ fit.1 closed))); count = refl }
on_part_lem (Sub a b) fit = record { fits = past (bytes "(sub ") _ _ (number _ _ _ fit.0 (space _ _ (number _ _ _ fit.1 closed))); count = refl }
on_part_lem (Neg a) fit = record { fits = past (bytes "(neg ") _ _ (number _ _ _ fit closed); count = refl }

spelts : List ModelComponent → List Spelt
spelts cs = map spelt_part (map part_in cs)

on_parts_lem : (cs : List ModelComponent) → FitsParts cs → OnParts (spelts cs)
unfolding FitsParts OnParts spelts
on_parts_lem [] fit = tt
on_parts_lem (c ∷ cs) fit = (on_part_lem c.part fit.0, on_parts_lem cs fit.1)

spelts_length : (cs : List ModelComponent) → length (spelts cs) ≡ length cs
unfolding spelts
spelts_length cs = length-map (map part_in cs) spelt_part ∙ length-map cs part_in

count_back : (i : Input) → FitsInput i → length (spelts (take i.model.count i.model.parts)) ≡ i.model.count
count_back i fit =
    spelts_length (take i.model.count i.model.parts) ∙ omega (arith, length-take i.model.count i.model.parts, fit.count, fit.array)

on_forms : (i : Input) → FitsInput i → OnForms (written_input i)
unfolding written_input fields is_field piece_of spelts
on_forms i fit = record {
  bounds = record {
    fits =
        past (bytes "(bounds (min ") _ _
        (float _ _ _ fit.min.0
        (space _ _ (float _ _ _ fit.min.1
        (space _ _ (float _ _ _ fit.min.2
        (past (bytes ") (max ") _ _
        (float _ _ _ fit.max.0
        (space _ _ (float _ _ _ fit.max.1
        (space _ _ (float _ _ _ fit.max.2
        (past (bytes ")") _ _ closed))))))))))));
    count = refl;
  };
  cell = record { fits = past (bytes "(cell ") _ _ (float _ _ _ fit.cell closed); count = refl };
  blocks = record { fits = past (bytes "(blocks ") _ _ (number _ _ _ fit.blocks.0 (space _ _ (number _ _ _ fit.blocks.1 closed))); count = refl };
  band = record { fits = past (bytes "(band ") _ _ (float _ _ _ fit.least (space _ _ (float _ _ _ fit.most closed))); count = refl };
  parts = on_parts_lem (take i.model.count i.model.parts) fit.parts;
  most = omega (arith, count_back i fit, fit.count);
}

-- ---- what is written is the input

back : (v : Float) → Double v → of_bits binary64 (to_bits binary64 v) ≡ v
back v fit = of_bits-to_bits binary64 v fit

pub spelt_back : (p : Part) → FitsPart p → part_from (spelt_part p).kind (spelt_part p).numbers ≡ p
unfolding FitsPart spelt_part part_from
spelt_back (Constant w) fit = rw (back w fit)
spelt_back (Sphere c r) fit = rw (back c.x fit.0.0, back c.y fit.0.1, back c.z fit.0.2, back r fit.1)
spelt_back (Plane n d) fit = rw (back n.x fit.0.0, back n.y fit.0.1, back n.z fit.0.2, back d fit.1)
spelt_back (Min a b) fit = refl
spelt_back (Max a b) fit = refl
spelt_back (Add a b) fit = refl
spelt_back (Sub a b) fit = refl
spelt_back (Neg a) fit = refl

spelts_back : (cs : List ModelComponent) → FitsParts cs → map component_of (spelts cs) ≡ cs
unfolding FitsParts spelts
spelts_back [] fit = refl
spelts_back (c ∷ cs) fit = rw (spelt_back c.part fit.0, spelts_back cs fit.1)

parts_back : (i : Input) → FitsInput i → components_of (spelts (take i.model.count i.model.parts)) ≡ i.model.parts
parts_back i fit =
    rw (count_back i fit, spelts_back (take i.model.count i.model.parts) fit.parts, ← fit.rest)
    (take-append-drop i.model.count i.model.parts)

pub input_same : (i : Input) → FitsInput i → input_of (written_input i) ≡ i
unfolding written_input spelts
input_same i fit =
    let b = i.grid.bounds in
    rw (
      back b.min.x fit.min.0,
      back b.min.y fit.min.1,
      back b.min.z fit.min.2,
      back b.max.x fit.max.0,
      back b.max.y fit.max.1,
      back b.max.z fit.max.2,
      back i.grid.cell fit.cell,
      back i.band.min fit.least,
      back i.band.max fit.most,
      parts_back i fit,
      count_back i fit,
    )

pub input_back : (i : Input) → FitsInput i
    → reading_of (read_text (input_text i)) ≡ read_job (record { input = i; patterns = patterns_of (written_input i).parts })
unfolding input_text reading_of
input_back i fit = rw (reading_complete (written_input i) (on_forms i fit), input_same i fit)
