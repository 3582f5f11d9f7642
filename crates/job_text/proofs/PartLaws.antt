-- The kinds of part lines by their numbers, and the parts that they make.
use mathlib.Core.Path.{◌≡◌, refl}
use Prim.Native.Nat.{ℕ, ◌≤◌}
use native.Mathlib.Omega.{arith}
use mathlib.Core.List.{List}
use lib.ListN.{take}
use lib.Seq.{get_or-take}
use Rattle.forms.specs.Forms.{piece_of, is_field, fields}
use Rattle.job_text.specs.Lines.{PartKind, const, sphere, plane, min, max, add, sub, neg, part_form}
use Rattle.job_text.specs.Parts.{part_from, pattern_from}

-- a part is made from its own numbers alone
pub part_own : (k : PartKind) (xs : List ℕ) → part_from k (take (fields (part_form k)) xs) ≡ part_from k xs
unfolding part_from fields is_field piece_of
part_own const xs = rw (get_or-take 1 xs 0 0 (omega arith))
part_own sphere xs =
    rw (get_or-take 4 xs 0 0 (omega arith), get_or-take 4 xs 1 0 (omega arith), get_or-take 4 xs 2 0 (omega arith), get_or-take 4 xs 3 0 (omega arith))
part_own plane xs =
    rw (get_or-take 4 xs 0 0 (omega arith), get_or-take 4 xs 1 0 (omega arith), get_or-take 4 xs 2 0 (omega arith), get_or-take 4 xs 3 0 (omega arith))
part_own min xs = rw (get_or-take 2 xs 0 0 (omega arith), get_or-take 2 xs 1 0 (omega arith))
part_own max xs = rw (get_or-take 2 xs 0 0 (omega arith), get_or-take 2 xs 1 0 (omega arith))
part_own add xs = rw (get_or-take 2 xs 0 0 (omega arith), get_or-take 2 xs 1 0 (omega arith))
part_own sub xs = rw (get_or-take 2 xs 0 0 (omega arith), get_or-take 2 xs 1 0 (omega arith))
part_own neg xs = rw (get_or-take 1 xs 0 0 (omega arith))

pub pattern_own : (k : PartKind) (xs : List ℕ) → pattern_from k (take (fields (part_form k)) xs) ≡ pattern_from k xs
unfolding pattern_from fields is_field piece_of
pattern_own const xs = get_or-take 1 xs 0 0 (omega arith)
pattern_own sphere xs = refl
pattern_own plane xs = refl
pattern_own min xs = refl
pattern_own max xs = refl
pattern_own add xs = refl
pattern_own sub xs = refl
pattern_own neg xs = refl

-- a part line has four numbers at most
pub part_fields : (k : PartKind) → fields (part_form k) ≤ 4
unfolding fields is_field piece_of
part_fields const = omega arith
part_fields sphere = omega arith
part_fields plane = omega arith
part_fields min = omega arith
part_fields max = omega arith
part_fields add = omega arith
part_fields sub = omega arith
part_fields neg = omega arith
