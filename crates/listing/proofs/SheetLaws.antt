-- The line of a child of a sheet, by its kind.
use Rattle.std.proofs.Common.{◌≡◌, ℕ, ◌<◌, ◌/◌, ◌%◌, List, [], ap, sym, ◌∙◌, arith, get_or}
use Rattle.std.specs.Prelude.{Float}
use Rattle.std.specs.Float.Ieee.{nan}
use Rattle.listing.specs.Listing.{leaf_line, constant_line, leaf_values, kind_line}
use Rattle.listing.specs.Inner.Sheets.{sheet_line, sheet_memory}
use Rattle.listing.specs.declared.sheet.Sheet.{Sheet}
use Rattle.listing.proofs.LineLaws.{no_line, leaf_line_lem, constant_line_lem}
use Rattle.listing.proofs.ListingLaws.{line_read}

module _ (s : Sheet) (j : ℕ) (inside : j < s.total) where
  abbrev kind : ℕ
  kind = get_or s.slices.kinds.now j 0

  here : kind_line s.points s.nan (j / s.children) (j % s.children) kind (get_or s.slices.numbers.now j nan) (get_or s.slices.places.now j 0) s.slices.store.now ≡ sheet_line s j
  here = line_read s.children s.points s.nan (sheet_memory s) j nan (omega (arith, s.all_numbers))

  pub empty_here : get_or s.slices.kinds.now j 0 ≡ 0 → sheet_line s j ≡ []
  empty_here is = sym here ∙ no_line s.points (j / s.children) (j % s.children) kind s.nan (get_or s.slices.numbers.now j nan) (get_or s.slices.places.now j 0) s.slices.store.now is

  pub leaf_here : get_or s.slices.kinds.now j 0 ≡ 2 → (values : List Float) → values ≡ leaf_values s.points s.slices.store.now (get_or s.slices.places.now j 0)
      → sheet_line s j ≡ leaf_line s.nan (j / s.children) (j % s.children) values
  leaf_here is values lent =
      sym here
      ∙ leaf_line_lem s.points (j / s.children) (j % s.children) kind s.nan (get_or s.slices.numbers.now j nan) (get_or s.slices.places.now j 0) s.slices.store.now
      (λ none. omega (arith, is, none)) is
      ∙ ap (leaf_line s.nan (j / s.children) (j % s.children)) (sym lent)

  pub constant_here : (get_or s.slices.kinds.now j 0 ≡ 0 → ⊥) → (get_or s.slices.kinds.now j 0 ≡ 2 → ⊥)
      → sheet_line s j ≡ constant_line (j / s.children) (j % s.children) (get_or s.slices.numbers.now j nan)
  constant_here some other =
      sym here
      ∙ constant_line_lem s.points (j / s.children) (j % s.children) kind s.nan (get_or s.slices.numbers.now j nan) (get_or s.slices.places.now j 0) s.slices.store.now some other
