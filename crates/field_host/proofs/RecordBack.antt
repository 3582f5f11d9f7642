-- Encoding a record and decoding it gives it back: for every record of 64 parts whose block sizes and part count have
-- 32 bits, as the code's have by their types.
use mathlib.Core.Path.{◌≡◌, refl, sym, ◌∙◌}
use mathlib.Core.Bool.{true}
use mathlib.Core.List.{List, map}
use Prim.Native.Nat.{ℕ, ◌<◌, ◌≤◌}
use native.Mathlib.Omega.{arith}
use lib.ListN.{length, take, get_or-map}
use lib.Seq.{ext_get_or, get_or-take, length-take-le}
use borrow.Author.Tests.{lt-ltb}
use Rattle.lists.specs.Tabulate.{tabulate}
use Rattle.lists.proofs.Tables.{length_tabulate, get_d_tabulate}
use Rattle.float.specs.Zero.{plus_zero}
use Rattle.model.specs.declared.Part.{Part}
use Rattle.model.specs.declared.Part.TheVariants.{Constant, Sphere, Plane, Min, Max, Add, Sub, Neg}
use Rattle.model.specs.declared.ModelComponent.{ModelComponent}
use Rattle.model.specs.Part.{part_in}
use Rattle.model.specs.Model.{part_of}
use Rattle.model.specs.Flat.{code_of, first_input, second_input, vector_of, number_of, layout_of, part_from}
use Rattle.model.proofs.FlatParts.{entries_back}
use Rattle.schedule.specs.declared.Cursor.{Cursor}
use Rattle.schedule.specs.declared.Cursor.TheVariants.{End, Corner, Point}
use Rattle.std.specs.Prelude.{Option, Some, None}
use Rattle.schedule.specs.declared.Job.{Job}
use Rattle.field_host.specs.Given.{part_coded, part_given, component_given, input_given}
use Rattle.field_host.specs.Carried.{cursor_tag, cursor_node, cursor_place, cursor_point, cursor_of, words_of, fits, decoded, encoded}

-- ---- the model

-- a part from its own entries
coded_entries : (q : Part) → part_coded (code_of q) (vector_of q) (number_of q) (first_input q) (second_input q) ≡ q
unfolding part_coded code_of first_input second_input vector_of number_of part_from
coded_entries (Constant w) = refl
coded_entries (Sphere centre r) = refl
coded_entries (Plane n d) = refl
coded_entries (Min a b) = refl
coded_entries (Max a b) = refl
coded_entries (Add a b) = refl
coded_entries (Sub a b) = refl
coded_entries (Neg a) = refl

-- the part that a layout has at a place
part_back : (parts : List Part) (p : ℕ) → p < 64 → part_given (layout_of parts) p ≡ part_of parts p
unfolding part_given
part_back parts p h = entries_back part_coded parts p h ∙ coded_entries (part_of parts p)

-- laying parts out and reading them back gives them, whether or not cause 4 refuses their model
pub read_back : (parts : List Part) (count : ℕ) → count ≤ 64 → count ≤ length parts → tabulate count (part_given (layout_of parts)) ≡ take count parts
read_back parts count few long =
    let given = part_given (layout_of parts) in
    ext_get_or (Constant plus_zero) (tabulate count given) (take count parts)
    (length_tabulate count given ∙ sym (length-take-le count parts long))
    (λ p h.
    let below : p < count = omega (arith, length_tabulate count given) in
    get_d_tabulate count given p (Constant plus_zero) below
    ∙ part_back parts p (omega arith)
    ∙ sym (get_or-take count parts p (Constant plus_zero) below))

-- what stands past a list of parts
abbrev none : ModelComponent
none = record { part = Constant plus_zero }

parts_back : (ps : List ModelComponent) → length ps ≡ 64 → tabulate 64 (component_given (layout_of (map part_in ps))) ≡ ps
parts_back ps long =
    let given = component_given (layout_of (map part_in ps)) in
    ext_get_or none (tabulate 64 given) ps
    (length_tabulate 64 given ∙ sym long)
    (λ p h.
    let below : p < 64 = omega (arith, length_tabulate 64 given) in
    get_d_tabulate 64 given p none below
    ∙ (λ i. record { part = (part_back (map part_in ps) p below ∙ get_or-map part_in ps p none) i }))

-- ---- the words

cursor_back : (a : Cursor) → cursor_of (cursor_tag a) (cursor_node a) (cursor_place a) (cursor_point a) ≡ a
unfolding cursor_of cursor_tag cursor_node cursor_place cursor_point
cursor_back End = refl
cursor_back (Corner v i) = refl
cursor_back (Point v c p) = refl

tag_below : (a : Cursor) → cursor_tag a < 3
unfolding cursor_tag
tag_below End = omega arith
tag_below (Corner v i) = omega arith
tag_below (Point v c p) = omega arith

-- ---- the record

-- a record of 64 parts whose block sizes and part count have 32 bits
abbrev pub Codable : Option Job → Type 0
Codable None = Unit {0}
Codable (Some j) =
    (j.input.grid.inner < 4294967296) × (j.input.grid.leaf < 4294967296) × (j.input.model.count < 4294967296) × (length j.input.model.parts ≡ 64)

fits_encoded : (j : Job) → Codable (Some j) → fits (words_of j) ≡ true
unfolding fits
fits_encoded j c = simp (lt-ltb _ _ c.0, lt-ltb _ _ c.1, lt-ltb _ _ c.2, lt-ltb _ _ (tag_below j.cursor))

pub record_back : (r : Option Job) → Codable r → decoded (encoded r) ≡ r
unfolding encoded decoded input_given
record_back None c = refl
record_back (Some j) c =
    rw (fits_encoded j c)
    (λ i. Some (record {
      input = record {
        grid = j.input.grid;
        band = j.input.band;
        model = record { parts = parts_back j.input.model.parts c.3 i; count = j.input.model.count };
      };
      lengths = j.lengths;
      counts = j.counts;
      cursor = cursor_back j.cursor i;
    }))
