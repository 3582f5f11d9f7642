-- The whole judgement of a record, by its tests in turn: its input, its lengths and its kinds, and then how far its grid's job is.
use mathlib.Core.Path.{◌≡◌, refl, ◌∙◌}
use mathlib.Core.Bool.{Bool, true, false, not, ◌&&◌, ◌||◌}
use native.Mathlib.Nat.{zero-add}
use lib.Dec.{ltb, eqb}
use borrow.Author.Tests.{not-false}
use Rattle.lists.specs.Flags.{agrees_from}
use Rattle.lists.proofs.Flags.{agrees_each}
use Rattle.input.specs.declared.Input.{Input}
use Rattle.input.specs.declared.Lengths.{Lengths}
use Rattle.std.specs.Prelude.{is_err}
use Rattle.input.specs.Causes.{refusal_of}
use Rattle.input.proofs.Clear.{Clear, clear}
use Rattle.schedule.proofs.Possible.{accepted_answer}
use Rattle.schedule.specs.declared.Counts.{Counts}
use Rattle.schedule.specs.declared.Job.{Job}
use Rattle.schedule.specs.declared.Cursor.{Cursor}
use Rattle.schedule.specs.declared.Cursor.TheVariants.{End, Corner, Point}
use Rattle.schedule.specs.Totals.{count_before, count_all, active_up_to, evaluations_bound}
use Rattle.schedule.specs.Opened.{lengths_of, active_at, ActiveKinds}
use Rattle.schedule.specs.Counts.{counts_with, same_counts}
use Rattle.schedule.specs.Possible.{same_lengths, valid_cursor, inside_child, impossible}
use Rattle.schedule.specs.Memory.{Memory}
use Rattle.plans.specs.Plan.{plan_with, plan_of}
use Rattle.plans.specs.Sparse.{sparse}
use Rattle.plans.specs.Inner.GridPlan.{grid_plan}
use Rattle.judging.specs.Inner.Judged.{wrong_progress}

-- how far a job is depends on its grid alone
progress_same : (i : Input) (c : Counts) (a : Cursor) → wrong_progress (grid_plan i.grid) c a ≡ wrong_progress (plan_of i) c a
unfolding plan_with active_up_to valid_cursor evaluations_bound count_before count_all
progress_same i c End = refl
progress_same i c (Corner v k) = refl
progress_same i c (Point v k p) = refl

-- ---- eight tests in turn

module _ (a b c d e f g h : Bool) where
  judged_first : a ≡ true → true ≡ (a || b || c || d || e || f || g || h)
  judged_first p = rw p refl

  judged_second : a ≡ false → b ≡ true → true ≡ (a || b || c || d || e || f || g || h)
  judged_second p q = rw (p, q) refl

  judged_third : a ≡ false → b ≡ false → c ≡ true → true ≡ (a || b || c || d || e || f || g || h)
  judged_third p q r = rw (p, q, r) refl

  judged_rest : a ≡ false → b ≡ false → c ≡ false → {x : Bool} → x ≡ (d || e || f || g || h) → x ≡ (a || b || c || d || e || f || g || h)
  judged_rest p q r x = rw (p, q, r) x

module _ (j : Job) (m : Memory) where
  abbrev lent_now : Lengths
  lent_now = lengths_of m

  abbrev meets_cause : Bool
  meets_cause = is_err (refusal_of j.input lent_now)

  abbrev other_lengths : Bool
  other_lengths = not (same_lengths j.lengths lent_now)

  abbrev other_kinds : Bool
  other_kinds = not (agrees_from (active_at (plan_of j.input)) 0 m.kinds)

  abbrev other_counts : Bool
  other_counts = not (same_counts j.counts (counts_with (plan_of j.input) j.counts.leaves j.counts.evaluations))

  abbrev many_evaluations : Bool
  many_evaluations = ltb (evaluations_bound (plan_of j.input)) j.counts.evaluations

  abbrev other_cursor : Bool
  other_cursor = not (valid_cursor (plan_of j.input) j.cursor)

  abbrev many_leaves : Bool
  many_leaves = ltb (active_up_to (plan_of j.input) j.cursor) j.counts.leaves

  abbrev no_leaf : Bool
  no_leaf = inside_child j.cursor && eqb j.counts.leaves 0

  abbrev is_impossible : Bool
  is_impossible = impossible sparse j m

  pub impossible_cause : meets_cause ≡ true → true ≡ is_impossible
  unfolding impossible
  impossible_cause a = judged_first meets_cause other_lengths other_kinds other_counts many_evaluations other_cursor many_leaves no_leaf a

  module _ (a : meets_cause ≡ false) where
    pub possible_input : Clear j.input lent_now
    possible_input = clear j.input lent_now (accepted_answer _ a)

    pub impossible_lengths : other_lengths ≡ true → true ≡ is_impossible
    unfolding impossible
    impossible_lengths b = judged_second meets_cause other_lengths other_kinds other_counts many_evaluations other_cursor many_leaves no_leaf a b

    module _ (b : other_lengths ≡ false) where
      pub impossible_kinds : other_kinds ≡ true → true ≡ is_impossible
      unfolding impossible
      impossible_kinds c = judged_third meets_cause other_lengths other_kinds other_counts many_evaluations other_cursor many_leaves no_leaf a b c

      module _ (c : other_kinds ≡ false) where
        pub right_kinds : ActiveKinds (grid_plan j.input.grid) m.kinds
        unfolding plan_with
        right_kinds p h = rw zero-add at (agrees_each (active_at (plan_of j.input)) m.kinds 0 (not-false _ c) p h)

        pub impossible_progress : {x : Bool} → x ≡ wrong_progress (grid_plan j.input.grid) j.counts j.cursor → x ≡ is_impossible
        unfolding impossible
        impossible_progress x =
            judged_rest meets_cause other_lengths other_kinds other_counts many_evaluations other_cursor many_leaves no_leaf a b c
            (x ∙ progress_same j.input j.counts j.cursor)
