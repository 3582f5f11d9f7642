-- What an input gives that no cause of open meets: `Clear`, and the law both ways.
use mathlib.Core.Path.{◌≡◌, refl}
use mathlib.Core.Bool.{true, false, ◌||◌}
use Prim.Native.Nat.{◌+◌, ◌*◌, ◌≤◌}
use lib.Dec.{ltb}
use borrow.Author.Tests.{ltb-false, le-ltb}
use Rattle.lists.proofs.Tests.{or_left, or_right}
use Rattle.std.specs.Prelude.{Result, Ok, Err, is_ok}
use Rattle.causes.specs.declared.Cause.{Cause}
use Rattle.causes.proofs.Lists.{none_applies, answered}
use Rattle.model.specs.Model.{refused_by_four}
use Rattle.grid.specs.declared.Grid.{Grid}
use Rattle.grid.specs.Blocks.{cube}
use Rattle.grid.specs.Nodes.{nodes_of}
use Rattle.grid.specs.Counting.{active_of}
use Rattle.grid.specs.Limits.{refused_by_one, refused_by_two, refused_by_five, children_of}
use Rattle.input.specs.declared.Input.{Input}
use Rattle.input.specs.declared.Lengths.{Lengths}
use Rattle.input.specs.Needed.{shorter}
use Rattle.input.specs.Causes.{refused_by_three, refused_by_six, open_causes, refusal_of}

-- slices that are long enough for a grid
pub record Long (g : Grid) (l : Lengths) : Type 0 where
  pub kinds : nodes_of g * cube g.inner ≤ l.kinds
  pub numbers : nodes_of g * cube g.inner ≤ l.numbers
  pub places : nodes_of g * cube g.inner ≤ l.places
  pub corners : cube (g.inner + 1) ≤ l.corners
  pub store : active_of g * cube g.leaf ≤ l.store

module _ (g : Grid) (l : Lengths) where
  pub long : refused_by_six g l ≡ false → Long g l
  unfolding refused_by_six shorter children_of
  long e =
      let n = nodes_of g * cube g.inner in
      let kinds = ltb l.kinds n in
      let numbers = ltb l.numbers n in
      let places = ltb l.places n in
      let store = ltb l.store (active_of g * cube g.leaf) in
      let four = or_left (kinds || numbers || places || store) _ e in
      let three = or_left (kinds || numbers || places) store four in
      let two = or_left (kinds || numbers) places three in
      record {
        kinds = ltb-false l.kinds n (or_left kinds numbers two);
        numbers = ltb-false l.numbers n (or_right kinds numbers two);
        places = ltb-false l.places n (or_right (kinds || numbers) places three);
        store = ltb-false l.store _ (or_right (kinds || numbers || places) store four);
        corners = ltb-false l.corners _ (or_right (kinds || numbers || places || store) _ e);
      }

  pub not_short : Long g l → refused_by_six g l ≡ false
  unfolding refused_by_six shorter children_of
  not_short h =
      simp (le-ltb _ _ h.kinds, le-ltb _ _ h.numbers, le-ltb _ _ h.places, le-ltb _ _ h.store, le-ltb _ _ h.corners)

pub record Clear (i : Input) (l : Lengths) : Type 0 where
  pub one : refused_by_one i.grid ≡ false
  pub two : refused_by_two i.grid ≡ false
  pub three : refused_by_three i.band ≡ false
  pub four : refused_by_four i.model ≡ false
  pub five : refused_by_five i.grid ≡ false
  pub lent : Long i.grid l

module _ (i : Input) (l : Lengths) where
  pub clear : refusal_of i l ≡ Ok tt → Clear i l
  unfolding refusal_of open_causes
  clear e =
      let first = none_applies tt (open_causes i l) e in
      let second = first.1 in
      let third = second.1 in
      let fourth = third.1 in
      let fifth = fourth.1 in
      record { one = first.0; two = second.0; three = third.0; four = fourth.0; five = fifth.0; lent = long i.grid l fifth.1.0 }

  -- an input whose refusal is none
  pub no_cause_lem : is_ok (refusal_of i l) ≡ true → Clear i l
  no_cause_lem e = by (refusal_of i l) refl e
    where
      by : (r : Result Unit Cause) → refusal_of i l ≡ r → is_ok r ≡ true → Clear i l
      by (Ok u) same ok = clear same
      by (Err cause) same ok = cc

  pub accepted : Clear i l → refusal_of i l ≡ Ok tt
  unfolding refusal_of open_causes
  accepted c = answered tt (open_causes i l) (c.one, (c.two, (c.three, (c.four, (c.five, (not_short i.grid l c.lent, tt))))))
