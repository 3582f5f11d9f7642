-- A stored case is a line `OP A B R`: R has the bits that the operation OP gives for the floats with the bits A and B. The one-operand kinds do not look at B.
-- Any NaN counts as any other: `to_bits` writes one pattern for all of them.
use Rattle.std.specs.Prelude.{ℕ, if◌then◌else◌, List, ◌==◌, from_bits, to_bits, codes, Float, Option, Some, None, Result, Ok, Err}
use Rattle.std.specs.Option.{option_and_then, option_map}
use Rattle.std.specs.Float.{binary64}
use Rattle.float.specs.Select.{min_of, max_of}
use Rattle.float.specs.Whole.{floor_of, ceil_of}
use Rattle.root.specs.Root.{square_root}
use Rattle.vectors.specs.Text.{has_word, row_at}
use Rattle.float_vectors.specs.declared.case.Operation.{Operation}
use Rattle.float_vectors.specs.declared.case.Operation.TheVariants.{Sqrt, Floor, Ceil, Min, Max}
use Rattle.float_vectors.specs.declared.case.Verdict.{Verdict}

-- the operation that a line names
abbrev pub operation_of : List ℕ → Option Operation
operation_of s =
    if has_word s 0 (codes "sqrt ") then Some Sqrt else
    (if has_word s 0 (codes "floor ") then Some Floor else
    (if has_word s 0 (codes "ceil ") then Some Ceil else
    (if has_word s 0 (codes "min ") then Some Min else
    (if has_word s 0 (codes "max ") then Some Max else None))))

-- where the first number starts
abbrev pub start_of : Operation → ℕ
start_of Sqrt = 5
start_of Floor = 6
start_of Ceil = 5
start_of Min = 4
start_of Max = 4

abbrev pub outcome_of : Operation → Float → Float → Float
outcome_of Sqrt a b = square_root a
outcome_of Floor a b = floor_of a
outcome_of Ceil a b = ceil_of a
outcome_of Min a b = min_of a b
outcome_of Max a b = max_of a b

-- what an operation gives, g, against the bits that are stored
abbrev pub compared : ℕ → ℕ → Result Unit ℕ
compared g r = if g == to_bits binary64 (from_bits binary64 r) then Ok tt else Err g

abbrev pub judged : Operation → ℕ × ℕ × ℕ → Verdict
judged op row = record {
  operation = op;
  given = compared (to_bits binary64 (outcome_of op (from_bits binary64 row.0) (from_bits binary64 row.1))) row.2;
}

-- the verdict on a line, if it has the form of a case
abbrev pub verdict_of : List ℕ → Option Verdict
verdict_of s = option_and_then (λ op. option_map (judged op) (row_at s (start_of op))) (operation_of s)
