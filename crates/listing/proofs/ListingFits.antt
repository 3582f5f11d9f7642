-- What the program lends holds every listing that it prints.
use Prim.Native.Nat.{ℕ, zero, suc, ◌+◌, ◌*◌, ◌/◌, ◌%◌, ◌≤◌, ◌<◌}
use mathlib.Core.Path.{◌≡◌, refl, sym, ap, ap₂, ◌∙◌}
use mathlib.Core.Bool.{Bool, true, false}
use mathlib.Core.List.{List, [], ◌∷◌, ◌++◌}
use native.Mathlib.Nat.{add-zero, zero-mul, mul-add-div_right, div-eq_of_lt, mul-add-mod_self_right, mod-eq_of_lt, mul-add, mul_left_comm, div-le_self}
use native.Mathlib.Omega.{arith}
use lib.ListN.{length, length-append}
use lib.Ieee.{binary64, to_bits}
use Rattle.lists.specs.Tabulate.{tabulate}
use Rattle.lists.proofs.Tables.{length_tabulate}
use Rattle.grid.specs.Blocks.{cube}
use Rattle.schedule.specs.Schedule.{decision}
use Rattle.schedule.specs.Plan.{Plan}
use Rattle.grid.specs.declared.Verdict.{Verdict}
use Rattle.grid.specs.declared.Verdict.TheVariants.{Constant, Leaf}
use Rattle.lists.specs.Sums.{sum_from, sum_below, bit}
use Rattle.schedule.specs.Totals.{count_before, active_all, leaves_all, total}
use Rattle.schedule.specs.Counts.{counts_with}
use Rattle.lists.proofs.Sums.{sum_below_snoc, sum_bits_most}
use Rattle.schedule.proofs.Sums.{before_next, before_node, before_all}
use Rattle.input.specs.declared.Input.{Input}
use Rattle.plans.specs.Plan.{plan_with, plan_of, value_of, decide_by}
use Rattle.plans.specs.Sparse.{sparse}
use Rattle.std.specs.Prelude.{Ok}
use Rattle.input.proofs.Clear.{clear}
use Rattle.plans.proofs.Plans.{active_all_lem}
use Rattle.forms.specs.Digits.{decimal_count, decimal_of, hex_of}
use Rattle.forms.specs.Forms.{spell, spell_piece, piece_of, is_field, after}
use Rattle.forms.proofs.DigitLaws.{digits_length, count_most}
use Rattle.listing.specs.Lines.{leaf_form, leaf_end, constant_form, refused_form, off_form}
use Rattle.listing.specs.Listing.{values_text, leaf_line, constant_line, done_line, lines_from, plan_line, plan_line_at, plan_listing}
use Rattle.listing.specs.Listed.{program_lengths}
use Rattle.listing.proofs.LineLaws.{values_length, decimal_length}
use Rattle.listing.proofs.ListingLaws.{lines_measured, done_most}
use Rattle.listing.proofs.PlanListing.{at_place}

-- ---- lines of small nodes and children

small_length : (x : ℕ) → x < 1000 → length (decimal_of x) ≤ 3
small_length x small = omega (arith, digits_length 10 (decimal_count 19 x) x, count_most 19 3 x (omega arith) small)

module _ (v c : ℕ) (node : v < 1000) (child : c < 1000) where
  numbers_small : (t : List ℕ) → length (decimal_of v ++ (32 ∷ (decimal_of c ++ t))) ≤ 7 + length t
  numbers_small t =
      omega (arith, length-append (decimal_of v) (32 ∷ (decimal_of c ++ t)), length-append (decimal_of c) t, small_length v node, small_length c child)

  leaf_front_small : length (spell leaf_form (v ∷ c ∷ [])) ≤ 13
  unfolding spell spell_piece piece_of is_field after
  leaf_front_small = omega (arith, numbers_small [])

  leaf_small : (nan : ℕ) (P : Plan) → length (leaf_line nan v c (tabulate P.leaf_points (P.point_value v c))) ≤ 36 + 17 * P.leaf_points
  unfolding leaf_line
  leaf_small nan P =
      let values = tabulate P.leaf_points (P.point_value v c) in
      omega (
        arith,
        length-append (spell leaf_form (v ∷ c ∷ [])) (values_text nan values ++ leaf_end),
        length-append (values_text nan values) leaf_end,
        values_length nan values,
        length_tabulate P.leaf_points (P.point_value v c),
        leaf_front_small,
      )

  constant_small : (b : ℕ) → length (spell constant_form (v ∷ c ∷ b ∷ [])) ≤ 36
  unfolding spell spell_piece piece_of is_field after
  constant_small b =
      omega (arith, numbers_small (32 ∷ (hex_of b ++ (41 ∷ 10 ∷ []))), length-append (hex_of b) (41 ∷ 10 ∷ []), digits_length 16 16 b)

  line_small : (nan : ℕ) (P : Plan) (b : Bool) (d : Verdict) → length (plan_line P nan v c b d) ≤ bit b * (36 + 17 * P.leaf_points)
  unfolding plan_line constant_line
  line_small nan P false d = omega arith
  line_small nan P true (Constant k x) = omega (arith, constant_small (to_bits binary64 x))
  line_small nan P true Leaf = omega (arith, leaf_small nan P)

line_bytes : (a p : ℕ) → a * (36 + 17 * p) ≡ 36 * a + 17 * (a * p)
line_bytes a p = omega (arith, mul-add a 36 (17 * p), mul_left_comm a 17 p)

-- ---- active children, place by place

module _ (P : Plan) where
  -- whether the child at place j is active, as a number
  abbrev active_bit : ℕ → ℕ
  active_bit j = bit (P.active (j / P.children) (j % P.children))

  -- those of a node's first c children, after those of the nodes before it
  bits_of_node : (v : ℕ) → sum_below active_bit (v * P.children) ≡ count_before P P.active v 0
      → (c : ℕ) → c ≤ P.children → sum_below active_bit (v * P.children + c) ≡ count_before P P.active v c
  bits_of_node v before zero within = ap (sum_below active_bit) (add-zero (v * P.children)) ∙ before
  bits_of_node v before (suc c) within =
      let here : v * P.children + suc c ≡ suc (v * P.children + c) = omega arith in
      let node : (v * P.children + c) / P.children ≡ v =
      mul-add-div_right {m = P.children} (omega arith) v c ∙ ap (λ n. v + n) (div-eq_of_lt within) ∙ add-zero v in
      let child : (v * P.children + c) % P.children ≡ c = mul-add-mod_self_right v P.children c ∙ mod-eq_of_lt within in
      ap (sum_below active_bit) here
      ∙ sum_below_snoc active_bit (v * P.children + c)
      ∙ ap₂ (λ a b. a + b) (bits_of_node v before c (omega arith)) (ap₂ (λ a b. bit (P.active a b)) node child)
      ∙ sym (before_next P P.active v c)

  bits_before : (v : ℕ) → sum_below active_bit (v * P.children) ≡ count_before P P.active v 0
  unfolding count_before sum_from
  bits_before zero = ap (sum_below active_bit) (zero-mul P.children)
  bits_before (suc v) =
      let here : suc v * P.children ≡ v * P.children + P.children = omega arith in
      ap (sum_below active_bit) here ∙ bits_of_node v (bits_before v) P.children (omega arith) ∙ sym (before_node P P.active v)

  bits_all : sum_below active_bit (P.nodes * P.children) ≡ active_all P
  bits_all = bits_before P.nodes ∙ before_all P P.active

  -- ---- the listing's length

  lines_small : (nan r : ℕ) → r ≤ P.nodes * P.children → r ≤ 512
      → sum_below (λ j. length (plan_line_at P nan j)) r ≤ sum_below active_bit r * (36 + 17 * P.leaf_points)
  unfolding sum_from plan_line_at
  lines_small nan zero within few = omega arith
  lines_small nan (suc r) within few =
      let at = at_place P r (omega arith) in
      let v = r / P.children in
      let c = r % P.children in
      let node : v < 1000 = omega (arith, div-le_self r P.children) in
      let child : c < 1000 = omega (arith, at.place) in
      let b = P.active v c in
      rw (sum_below_snoc (λ j. length (plan_line_at P nan j)) r, sum_below_snoc active_bit r)
      (omega (arith, line_small v c node child nan P b (decision P v c), lines_small nan r (omega arith) (omega arith)))

  listing_small : (nan : ℕ) → P.nodes * P.children ≤ 512 → active_all P * P.leaf_points ≤ 4096 → length (plan_listing P nan) ≤ 88176
  unfolding plan_listing
  listing_small nan few held =
      let n = P.nodes * P.children in
      let done = done_line (counts_with P (leaves_all P) (total P)) in
      let lines = lines_from (plan_line_at P nan) n 0 in
      let measured = lines_measured (plan_line_at P nan) (λ j. length (plan_line_at P nan j)) (λ j. refl) n 0 in
      let small = lines_small nan n (omega arith) few in
      let active : active_all P ≤ 512 = omega (arith, sum_bits_most (λ j. P.active (j / P.children) (j % P.children)) n, bits_all) in
      let bytes = line_bytes (active_all P) P.leaf_points in
      omega (
        arith,
        length-append done lines,
        done_most (counts_with P (leaves_all P) (total P)),
        measured,
        small,
        ap (λ k. k * (36 + 17 * P.leaf_points)) bits_all,
        bytes,
      )

-- THE PROGRAM'S LISTINGS FIT
pub listing_fits : (i : Input) (nan : ℕ) → sparse.answer program_lengths i ≡ Ok tt → length (plan_listing (plan_of i) nan) ≤ 88176
unfolding plan_with
listing_fits i nan none =
    let n = clear i program_lengths none in
    listing_small (plan_of i) nan n.lent.kinds (omega (
      arith,
      n.lent.store,
      ap (λ k. k * cube i.grid.leaf)
          (active_all_lem i.grid (decide_by i.band) (value_of i.model)),
    ))

-- so do the lines of refusals
pub refused_fits : (number : ℕ) → length (spell refused_form (number ∷ [])) ≤ 31
unfolding spell spell_piece piece_of is_field after
refused_fits number = omega (arith, length-append (decimal_of number) (41 ∷ 10 ∷ []), decimal_length number)

pub off_fits : (line : ℕ) → length (spell off_form (line ∷ [])) ≤ 34
unfolding spell spell_piece piece_of is_field after
off_fits line = omega (arith, length-append (decimal_of line) (41 ∷ 10 ∷ []), decimal_length line)
