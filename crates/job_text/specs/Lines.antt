-- The lines of a job's text (rules T4 and T5). H stands for a float's bits, D for a decimal number.
use Rattle.std.specs.Prelude.{ℕ, List, [], ◌∷◌, map}
use Prim.Native.String.{String}
use Rattle.forms.specs.Bytes.{bytes}
use Rattle.forms.specs.Forms.{piece_of}
use Rattle.forms.specs.declared.Piece.{Piece}
pub use Rattle.job_text.specs.declared.parts.PartKind.{PartKind}
pub use Rattle.job_text.specs.declared.parts.PartKind.TheVariants.{Const as const, Sphere as sphere, Plane as plane, Min as min, Max as max}
pub use Rattle.job_text.specs.declared.parts.PartKind.TheVariants.{Add as add, Sub as sub, Neg as neg}

-- a form as a quoted text, with its single spaces and the byte 10 at its end (rule T3)
abbrev pub form : String → List Piece
form s = map piece_of (bytes s)

-- the largest decimal number of a job's text (rule T2)
abbrev pub limit : ℕ
limit = 4294967295

-- ---- four lines, then the parts (rules T4 and T5)

-- the least point of the bounds, then the most (rule T4)
abbrev pub bounds_form : List Piece
bounds_form = form "(bounds (min H H H) (max H H H))\n"

-- the cell's size (rule T4)
abbrev pub cell_form : List Piece
cell_form = form "(cell H)\n"

-- inner, then leaf (rule T4)
abbrev pub blocks_form : List Piece
blocks_form = form "(blocks D D)\n"

-- the lower limit, then the upper (rule T4)
abbrev pub band_form : List Piece
band_form = form "(band H H)\n"

-- the line of each kind: numbers of a shape, or its inputs (rule T5)
abbrev pub part_form : PartKind → List Piece
part_form const = form "(const H)\n"
part_form sphere = form "(sphere H H H H)\n"
part_form plane = form "(plane H H H H)\n"
part_form min = form "(min D D)\n"
part_form max = form "(max D D)\n"
part_form add = form "(add D D)\n"
part_form sub = form "(sub D D)\n"
part_form neg = form "(neg D)\n"

-- in the order in which a line is held against their forms
abbrev pub part_kinds : List PartKind
part_kinds = const ∷ sphere ∷ plane ∷ min ∷ max ∷ add ∷ sub ∷ neg ∷ []
