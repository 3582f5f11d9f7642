-- `write_possible` meets its contract: by the cursor, by the leaves' places, and by whether the listing fits.
use Rattle.std.proofs.Common.{refl, sym, ap, ◌∙◌, arith}
use Rattle.schedule.specs.Lent.{viewed}
use Rattle.listing.proofs.ListingLaws.{listing_most}
use Rattle.listing.proofs.WrittenLaws.{ready, sizes_read, not_ended, ended, unfinished, unplaced, printed}
use Rattle.listing.proofs.writing.write_possible.Goals as goal

pub returns-in_default : goal.returns-in_default
returns-in_default c =
    let a = c.args in
    let m = viewed a.slices.now in
    let is = unfinished a.job.now a.nan m a.out.now (not_ended _ c.in_default.not-End) in
    record { answer = sym (ap (λ p. p.answer) is); out = sym (ap (λ p. p.bytes) is) }

pub invariant_of-grid : goal.invariant_of-grid
invariant_of-grid c = let s = ready _ _ c.requires in record { two = s.two; five = s.five }

pub all_placed-requires-clause-size : goal.all_placed-requires-clause-size
all_placed-requires-clause-size c = omega (arith, c.leaf_points-points.ensures.is, (ready _ _ c.requires).sizes.size)

pub all_placed-requires-clause-kinds : goal.all_placed-requires-clause-kinds
all_placed-requires-clause-kinds c =
    let s = ready _ _ c.requires in
    omega (arith, c.children-total.ensures.is, s.enough_kinds)

pub all_placed-requires-clause-places : goal.all_placed-requires-clause-places
all_placed-requires-clause-places c =
    let s = ready _ _ c.requires in
    omega (arith, c.children-total.ensures.is, s.enough_places)

pub returns-then-not-all_placed-clause-answer : goal.returns-then-not-all_placed-clause-answer
returns-then-not-all_placed-clause-answer c =
    let a = c.args in
    let m = viewed a.slices.now in
    let is =
    unplaced a.job.now a.nan m a.out.now c.children-total.ensures.is refl c.leaf_points-points.ensures.is (ended _ c.in-End.is)
    (sym c.all_placed.ensures ∙ c.if-not-all_placed.true) in
    sym (ap (λ p. p.answer) is)

pub returns-then-not-all_placed-clause-out : goal.returns-then-not-all_placed-clause-out
returns-then-not-all_placed-clause-out c =
    let a = c.args in
    let m = viewed a.slices.now in
    let is =
    unplaced a.job.now a.nan m a.out.now c.children-total.ensures.is refl c.leaf_points-points.ensures.is (ended _ c.in-End.is)
    (sym c.all_placed.ensures ∙ c.if-not-all_placed.true) in
    sym (ap (λ p. p.bytes) is)

pub invariant_of-sheet : goal.invariant_of-sheet
invariant_of-sheet c =
    let s = ready _ _ c.requires in
    let total = c.children-total.ensures.is in
    record {
      sizes = sizes_read s c.children-total.ensures.is c.node_children.ensures.is c.leaf_points-points.ensures.is;
      all_kinds = omega (arith, total, s.enough_kinds);
      all_numbers = omega (arith, total, s.enough_numbers);
      all_places = omega (arith, total, s.enough_places);
      placed = sym c.all_placed.ensures ∙ c.if-not-all_placed.false;
    }

pub write-requires : goal.write-requires
write-requires c = listing_most _ _ _ _ _ _ (sizes_read (ready _ _ c.requires) c.children-total.ensures.is c.node_children.ensures.is c.leaf_points-points.ensures.is)

pub returns-clause-answer : goal.returns-clause-answer
returns-clause-answer c =
    let a = c.args in
    let m = viewed a.slices.now in
    let is =
    printed a.job.now a.nan m a.out.now c.children-total.ensures.is c.node_children.ensures.is c.leaf_points-points.ensures.is (ended _ c.in-End.is)
    (sym c.all_placed.ensures ∙ c.if-not-all_placed.false) in
    c.write.ensures.answer ∙ sym (ap (λ p. p.answer) is)

pub returns-clause-out : goal.returns-clause-out
returns-clause-out c =
    let a = c.args in
    let m = viewed a.slices.now in
    let is =
    printed a.job.now a.nan m a.out.now c.children-total.ensures.is c.node_children.ensures.is c.leaf_points-points.ensures.is (ended _ c.in-End.is)
    (sym c.all_placed.ensures ∙ c.if-not-all_placed.false) in
    c.write.ensures.out ∙ sym (ap (λ p. p.bytes) is)
