-- What writing a record's listing answers, case by case, and the sizes that a possible record gives.
use Prim.Native.Nat.{ℕ, ◌≤◌}
use mathlib.Core.Path.{◌≡◌, refl, sym, ap, ◌∙◌}
use mathlib.Core.Bool.{true, false}
use mathlib.Core.List.{List}
use native.Mathlib.Omega.{arith}
use lib.ListN.{length}
use Rattle.grid.specs.declared.Grid.{Grid}
use Rattle.grid.specs.Blocks.{cube}
use Rattle.grid.specs.Limits.{refused_by_two, refused_by_five, children_of}
use Rattle.grid.proofs.BlockLaws.{cube_le}
use Rattle.grid.proofs.LimitLaws.{inner_block, few_children, bound_fits}
use Rattle.schedule.specs.Memory.{Memory}
use Rattle.schedule.specs.Opened.{lengths_of}
use Rattle.schedule.specs.Possible.{impossible}
use Rattle.schedule.proofs.Possible.{possible}
use Rattle.schedule.specs.declared.Cursor.{Cursor}
use Rattle.schedule.specs.declared.Cursor.TheVariants.{End, Corner, Point}
use Rattle.schedule.specs.declared.Job.{Job}
use Rattle.std.specs.Prelude.{Some, None}
use Rattle.plans.specs.Plan.{plan_with}
use Rattle.plans.specs.Sparse.{sparse}
use Rattle.input.proofs.Clear.{clear}
use Rattle.causes.specs.declared.Cause.TheVariants.{NoJob, ImpossibleRecord}
use Rattle.listing.specs.declared.unlisted.Unlisted.TheVariants.{Refused, NotPrintable}
use Rattle.listing.specs.Inner.Lengths.{Sizes}
use Rattle.listing.specs.Listing.{line_at, listing_to, listing}
use Rattle.listing.specs.Written.{at_end, all_placed, printable, record_listing, refused_put, put_listing, possible_written, written}

-- ---- sizes

-- what an accepted grid gives, with slices of so many kinds, numbers and places
pub record Ready (g : Grid) (kinds numbers places : ℕ) : Type 0 where
  pub two : refused_by_two g ≡ false
  pub five : refused_by_five g ≡ false
  pub sizes : Sizes (children_of g) (cube g.inner) (cube g.leaf)
  pub enough_kinds : children_of g ≤ kinds
  pub enough_numbers : children_of g ≤ numbers
  pub enough_places : children_of g ≤ places

pub ready : (j : Job) (m : Memory) → impossible sparse j m ≡ false
    → Ready j.input.grid (length m.kinds) (length m.numbers) (length m.places)
unfolding children_of
ready j m judged =
    let i = j.input in
    let g = i.grid in
    let none = clear i (lengths_of m) (possible sparse j m judged).accepted in
    let n = inner_block g none.two in
    let fits = bound_fits g none.two none.five in
    let eight : 8 ≤ cube g.inner = cube_le g.inner 2 n.least in
    record {
      two = none.two;
      five = none.five;
      sizes = record { some = omega arith; size = fits.points; few = few_children g none.five };
      enough_kinds = none.lent.kinds;
      enough_numbers = none.lent.numbers;
      enough_places = none.lent.places;
    }

-- the same of the sizes that the code reads of the grid
pub sizes_read : {g : Grid} {kinds numbers places : ℕ} → Ready g kinds numbers places → {total children points : ℕ}
    → total ≡ children_of g → children ≡ cube g.inner → points ≡ cube g.leaf → Sizes total children points
sizes_read r total children points = rw (total, children, points) r.sizes

-- ---- a possible record

pub not_ended : (k : Cursor) → (k ≡ End → ⊥) → at_end k ≡ false
not_ended End other = absurd (other refl)
not_ended (Corner v i) other = refl
not_ended (Point v c p) other = refl

pub ended : (k : Cursor) → k ≡ End → at_end k ≡ true
ended k is = rw is

module _ (j : Job) (nan : ℕ) (m : Memory) (out : List ℕ) where
  abbrev g : Grid
  g = j.input.grid

  not_printed : printable j m ≡ false → possible_written j nan m out ≡ refused_put NotPrintable out
  unfolding possible_written
  not_printed is = rw is

  pub listed_whole : printable j m ≡ true → possible_written j nan m out ≡ put_listing (record_listing j nan m) out
  unfolding possible_written
  listed_whole is = rw is

  pub unfinished : at_end j.cursor ≡ false → possible_written j nan m out ≡ refused_put NotPrintable out
  unfolding printable
  unfinished is = not_printed (rw is)

  module _ {total children points : ℕ} (n : total ≡ children_of g) (c : children ≡ cube g.inner) (p : points ≡ cube g.leaf) where
    placed_as : all_placed points (length m.store) m.kinds m.places total 0
        ≡ all_placed (cube g.leaf) (length m.store) m.kinds m.places (children_of g) 0
    placed_as = rw (n, p)

    listing_as : listing_to total children points nan j.counts m
        ≡ record_listing j nan m
    unfolding record_listing listing plan_with line_at children_of
    listing_as = rw (n, c, p)

    pub unplaced : at_end j.cursor ≡ true → all_placed points (length m.store) m.kinds m.places total 0 ≡ false
        → possible_written j nan m out ≡ refused_put NotPrintable out
    unfolding printable plan_with children_of
    unplaced end is = let fails = sym placed_as ∙ is in not_printed (rw (end, fails))

    pub printed : at_end j.cursor ≡ true → all_placed points (length m.store) m.kinds m.places total 0 ≡ true
        → possible_written j nan m out
        ≡ put_listing (listing_to total children points nan j.counts m) out
    unfolding printable plan_with children_of
    printed end is =
        let holds = sym placed_as ∙ is in
        listed_whole (rw (end, holds)) ∙ ap (λ bs. put_listing bs out) (sym listing_as)

-- ---- a record without a job, and one with a job

pub no_job_lem : (nan : ℕ) (m : Memory) (out : List ℕ) → written None nan m out ≡ refused_put (Refused NoJob) out
unfolding written
no_job_lem nan m out = refl

module _ (j : Job) (nan : ℕ) (m : Memory) (out : List ℕ) where
  pub judged_impossible : impossible sparse j m ≡ true → written (Some j) nan m out ≡ refused_put (Refused ImpossibleRecord) out
  unfolding written
  judged_impossible judged = rw judged

  pub judged_possible : impossible sparse j m ≡ false → written (Some j) nan m out ≡ possible_written j nan m out
  unfolding written
  judged_possible judged = rw judged
