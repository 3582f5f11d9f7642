-- A model's parts laid out in two lists, in rows of 64: a row of codes and two of inputs, and four rows of numbers (rule M9).
use Rattle.std.specs.Prelude.{ℕ, ◌+◌, List, [], ◌∷◌, ◌++◌, get_or, Float}
use Rattle.lists.specs.Slices.{LentSlice}
use Rattle.lists.specs.Tabulate.{tabulate}
use Rattle.float.specs.Zero.{plus_zero}
use Rattle.geometry.specs.declared.Vec3.{Vec3}
use Rattle.geometry.specs.Values.{vec3}
use Rattle.model.specs.Model.{part_of}
use Rattle.model.specs.Part.{past, placed}
use Rattle.model.specs.declared.Part.{Part}
use Rattle.model.specs.declared.Part.TheVariants.{Constant, Sphere, Plane, Min, Max, Add, Sub, Neg}

-- ---- a part's entries, 0 where it has none (rule M9)

-- the code of each sort of part (rule M9)
unfoldable pub code_of : Part → ℕ
code_of (Constant w) = 0
code_of (Sphere centre r) = 1
code_of (Plane n d) = 2
code_of (Min a b) = 3
code_of (Max a b) = 4
code_of (Add a b) = 5
code_of (Sub a b) = 6
code_of (Neg a) = 7

unfoldable pub first_input : Part → ℕ
first_input (Constant w) = 0
first_input (Sphere centre r) = 0
first_input (Plane n d) = 0
first_input (Min a b) = a
first_input (Max a b) = a
first_input (Add a b) = a
first_input (Sub a b) = a
first_input (Neg a) = a

unfoldable pub second_input : Part → ℕ
second_input (Constant w) = 0
second_input (Sphere centre r) = 0
second_input (Plane n d) = 0
second_input (Min a b) = b
second_input (Max a b) = b
second_input (Add a b) = b
second_input (Sub a b) = b
second_input (Neg a) = 0

unfoldable pub vector_of : Part → Vec3
vector_of (Constant w) = vec3 plus_zero plus_zero plus_zero
vector_of (Sphere centre r) = centre
vector_of (Plane n d) = n
vector_of (Min a b) = vec3 plus_zero plus_zero plus_zero
vector_of (Max a b) = vec3 plus_zero plus_zero plus_zero
vector_of (Add a b) = vec3 plus_zero plus_zero plus_zero
vector_of (Sub a b) = vec3 plus_zero plus_zero plus_zero
vector_of (Neg a) = vec3 plus_zero plus_zero plus_zero

unfoldable pub number_of : Part → Float
number_of (Constant w) = w
number_of (Sphere centre r) = r
number_of (Plane n d) = d
number_of (Min a b) = plus_zero
number_of (Max a b) = plus_zero
number_of (Add a b) = plus_zero
number_of (Sub a b) = plus_zero
number_of (Neg a) = plus_zero

-- ---- what lists of any contents stand for

-- the two lists of a flat form (rule M9)
pub record Flat : Type 0 where
  pub words : List ℕ
  pub numbers : List Float

abbrev pub flat_of : List ℕ → List Float → Flat
flat_of words numbers = record { words = words; numbers = numbers }

-- as a call finds them
abbrev pub flat_in : LentSlice ℕ → LentSlice Float → Flat
flat_in words numbers = flat_of words.entry.now numbers.entry.now

-- rows of 64, one for each function of a list: its value for the part at each place
unfoldable pub entry_rows : {A : Type 0} → List (Part → A) → List Part → List A
entry_rows [] parts = []
entry_rows (f ∷ fs) parts = tabulate 64 (λ p. f (part_of parts p)) ++ entry_rows fs parts

abbrev pub word_entries : List (Part → ℕ)
word_entries = code_of ∷ first_input ∷ second_input ∷ []

abbrev pub number_entries : List (Part → Float)
number_entries = (λ q. (vector_of q).x) ∷ (λ q. (vector_of q).y) ∷ (λ q. (vector_of q).z) ∷ number_of ∷ []

-- the lists of a list of parts (rule M9)
abbrev pub layout_of : List Part → Flat
layout_of parts = flat_of (entry_rows word_entries parts) (entry_rows number_entries parts)

-- the parts in the order of their codes: the part of a code with its vector, number and inputs; a code that no part has stands for the constant +0 (rule M10)
unfoldable pub part_from : ℕ → Vec3 → Float → (a b : ℕ) → Part
part_from code v w a b =
    get_or (Constant w ∷ Sphere v w ∷ Plane v w ∷ Min a b ∷ Max a b ∷ Add a b ∷ Sub a b ∷ Neg a ∷ []) code (Constant plus_zero)

-- the part that the lists have at a place, whatever its inputs are
unfoldable pub part_read : Flat → ℕ → Part
part_read l p =
    part_from (get_or l.words p 0)
    (vec3 (get_or l.numbers p past) (get_or l.numbers (64 + p) past) (get_or l.numbers (128 + p) past))
    (get_or l.numbers (192 + p) past)
    (get_or l.words (64 + p) 0)
    (get_or l.words (128 + p) 0)

-- what counts as the part at a place (rule M10)
unfoldable pub part_at : Flat → ℕ → Part
part_at l p = placed p (part_read l p)

-- the first `count` of them
abbrev pub parts_of : Flat → ℕ → List Part
parts_of l count = tabulate count (part_at l)
