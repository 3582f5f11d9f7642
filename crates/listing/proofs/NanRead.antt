-- THE NAN BITS OF A JOB THAT IS READ: its constants have the bits that its text has, so a NaN leaf value has the job's pattern.
use mathlib.Core.Path.{◌≡◌, refl}
use Prim.Native.Nat.{ℕ, zero, suc, ◌-◌, ◌<◌}
use native.Mathlib.Omega.{arith}
use mathlib.Core.List.{List, [], ◌∷◌, ◌++◌, map}
use lib.ListN.{length, get_or, replicate}
use lib.Ieee.{Float}
use Rattle.forms.specs.Bytes.{bytes}
use Rattle.forms.specs.Forms.{piece_of}
use Rattle.forms.specs.declared.Piece.TheVariants.{Hex as hex, Byte as byte}
use Rattle.forms.specs.Fitting.{FitsPiece, Fits}
use Rattle.float.specs.Zero.{plus_zero}
use Rattle.model.specs.declared.ModelComponent.{ModelComponent}
use Rattle.model.specs.declared.Part.{Part}
use Rattle.model.specs.declared.Part.TheVariants.{Constant}
use Rattle.model.specs.Model.{part_of, model_value}
use Rattle.model.specs.Part.{part_in}
use Rattle.job_text.specs.declared.parts.PartKind.{PartKind}
use Rattle.job_text.specs.declared.parts.PartKind.TheVariants.{Const as const, Sphere as sphere, Plane as plane, Min as min, Max as max}
use Rattle.job_text.specs.declared.parts.PartKind.TheVariants.{Add as add, Sub as sub, Neg as neg}
use Rattle.job_text.specs.Lines.{limit, part_form}
use Rattle.job_text.specs.Parts.{part_from, pattern_from, Spelt}
use Rattle.job_text.specs.Reading.{Written, written, component_of, components_of, patterns_of, job_of, read_text}
use Rattle.job_text.specs.NanBits.{job_nan}
use Rattle.listing.specs.Values.{model_bits, OwnPattern, OwnPatterns}
use Rattle.listing.specs.Listing.{bits_in}
use Rattle.job_text.specs.OnForm.{OnForm, OnParts}
use Rattle.job_text.proofs.PartTurns.{fits_past}
use Rattle.listing.proofs.NanValues.{nan_bits_lem}
use Rattle.job_text.proofs.Sound.{reading_sound}

-- a part line's bits are its constant's
part_own_pattern : (k : PartKind) (xs : List ℕ) → OnForm (part_form k) xs → OwnPattern (part_from k xs) (pattern_from k xs)
unfolding OwnPattern part_from pattern_from piece_of Fits FitsPiece
part_own_pattern const xs on =
    let past : Fits limit (hex ∷ byte 41 ∷ byte 10 ∷ []) xs = fits_past (bytes "(const ") (hex ∷ byte 41 ∷ byte 10 ∷ []) xs on.fits in (refl, past.0)
part_own_pattern sphere xs on = tt
part_own_pattern plane xs on = tt
part_own_pattern min xs on = tt
part_own_pattern max xs on = tt
part_own_pattern add xs on = tt
part_own_pattern sub xs on = tt
part_own_pattern neg xs on = tt

-- at each place of part lines, whatever stands after them
own_at : (ss : List Spelt) (cs : List ModelComponent) (bs : List ℕ) → OnParts ss → (p : ℕ) → p < length ss
    → OwnPattern (part_of (map part_in (map component_of ss ++ cs)) p) (get_or (map (λ (s : Spelt). pattern_from s.kind s.numbers) ss ++ bs) p 0)
unfolding OnParts
own_at [] cs bs on p below = absurd (omega arith)
own_at (s ∷ ss) cs bs on zero below = part_own_pattern s.kind s.numbers on.0
own_at (s ∷ ss) cs bs on (suc p) below = own_at ss cs bs on.1 p (omega arith)

own_each : (parts : List Part) (patterns : List ℕ) (n : ℕ) → ((p : ℕ) → p < n → OwnPattern (part_of parts p) (get_or patterns p 0)) → OwnPatterns parts patterns n
unfolding OwnPatterns
own_each parts patterns zero each = tt
own_each parts patterns (suc n) each = (own_each parts patterns n (λ p below. each p (omega arith)), each n (omega arith))

pub read_own : (t : List ℕ) (w : Written) → read_text t ≡ written w
    → OwnPatterns (map part_in (components_of w.parts)) (patterns_of w.parts) (length w.parts)
read_own t w is =
    own_each (map part_in (components_of w.parts)) (patterns_of w.parts) (length w.parts)
    (own_at w.parts (replicate (64 - length w.parts) (record { part = Constant plus_zero }))
    (replicate (64 - length w.parts) 0) (reading_sound t w is).on.parts)

pub read_nan_bits : (t : List ℕ) (w : Written) → read_text t ≡ written w → (x y z : Float)
    → bits_in (job_nan (job_of w)) (model_value (map part_in (components_of w.parts)) (length w.parts) x y z)
    ≡ model_bits (map part_in (components_of w.parts)) (patterns_of w.parts) (length w.parts) x y z
read_nan_bits t w is x y z =
    nan_bits_lem (map part_in (components_of w.parts)) (patterns_of w.parts) x y z (length w.parts) (read_own t w is)
