-- The memory of a finished job has the listing that its plan has.
use Rattle.std.specs.Prelude.{Some}
use Prim.Native.Nat.{ℕ, ◌+◌, ◌*◌, ◌/◌, ◌%◌, ◌≤◌, ◌<◌}
use mathlib.Core.Path.{◌≡◌, refl, sym, ap, ◌∙◌}
use mathlib.Core.Bool.{Bool, true, false}
use mathlib.Core.List.{List, ◌++◌, map}
use native.Mathlib.Nat.{mul-le-mul_right, div-add-mod', div-lt_iff_lt-mul, mod-lt}
use native.Mathlib.Omega.{arith}
use borrow.Author.Tests.{ne_eqb, le-leb}
use lib.Dec.{eqb}
use lib.ListN.{length, get_or}
use lib.Ieee.{Float}
use Rattle.forms.proofs.Cases.{below_or}
use Rattle.float.specs.Zero.{plus_zero}
use Rattle.lists.specs.Tabulate.{tabulate}
use Rattle.lists.proofs.Tables.{tabulate_cong}
use Rattle.schedule.specs.Schedule.{corners_held, zeros, decision}
use Rattle.schedule.specs.Plan.{Plan}
use Rattle.grid.specs.declared.Kind.{Kind}
use Rattle.grid.specs.declared.Kind.TheVariants.{Active}
use Rattle.grid.specs.Kinds.{kind_number}
use Rattle.grid.specs.declared.Verdict.{Verdict}
use Rattle.grid.specs.declared.Verdict.TheVariants.{Constant, Leaf}
use Rattle.schedule.specs.Memory.{Memory}
use Rattle.schedule.specs.Totals.{becomes_leaf, leaves_before, leaves_all, total}
use Rattle.schedule.specs.Counts.{counts_with}
use Rattle.schedule.specs.Finished.{Finished, Child, child_at, finished_child}
use Rattle.schedule.proofs.Sums.{before_below}
use Rattle.grid.specs.Corners.{octet}
use Rattle.schedule.specs.Possible.{impossible}
use Rattle.input.specs.declared.Input.{Input}
use Rattle.schedule.specs.declared.Job.{Job}
use Rattle.plans.specs.Sparse.{sparse}
use Rattle.plans.specs.Plan.{plan_with, plan_of, box_of}
use Rattle.grid.proofs.Verdicts.{verdict_kind}
use Rattle.listing.specs.Listing.{done_line, leaf_line, leaf_values, kind_line, line_at, plan_line, plan_line_at, listing, plan_listing}
use Rattle.listing.specs.Written.{at_end, placed, all_placed, printable, record_listing, put_listing, written}
use Rattle.listing.proofs.LineLaws.{constant_line_lem}
use Rattle.listing.proofs.ListingLaws.{lines_cong, placed_all}
use Rattle.listing.proofs.WrittenLaws.{listed_whole, judged_possible}

-- a constant's kind is neither an empty child's nor a leaf's
abbrev pub Constants : Plan → Type 0
Constants P = (v c : ℕ) (k : Kind) (x : Float) → decision P v c ≡ Constant k x → (kind_number k ≡ 0 → ⊥) × (kind_number k ≡ 2 → ⊥)

active_kind : (k : Kind) → k ≡ Active → (kind_number k ≡ 0 → ⊥) × (kind_number k ≡ 2 → ⊥)
active_kind k is = rw is (λ none. omega arith, λ two. omega arith)

-- so it is in an input's plan
pub plan_constants : (i : Input) → Constants (plan_of i)
unfolding plan_with
plan_constants i v c k x is =
    let P = plan_of i in
    active_kind k (verdict_kind i.band.min i.band.max (box_of i.grid v c) (map (corners_held P v 0 zeros) (octet i.grid.inner c)) is)

-- ---- the place of a child among all children

pub record At (P : Plan) (j : ℕ) : Type 0 where
  pub node : j / P.children < P.nodes
  pub child : j % P.children < P.children
  pub place : j / P.children * P.children + j % P.children ≡ j

pub at_place : (P : Plan) (j : ℕ) → j < P.nodes * P.children → At P j
at_place P j below =
    let some : 0 < P.children = below_or 0 P.children (λ some. some) (λ none. absurd (no_children (omega arith))) in
    record { node = (div-lt_iff_lt-mul some).1 below; child = mod-lt j some; place = div-add-mod' j P.children }
  where
    no_children : P.children ≡ 0 → ⊥
    no_children none = omega (arith, ap (λ n. P.nodes * n) none)

-- ---- a finished job

module _ (P : Plan) (m : Memory) (constants : Constants P) (done : Finished P m) where
  child_is :
      (j : ℕ) → At P j
      → child_at m j
      ≡ finished_child (leaves_before P (j / P.children) (j % P.children))
      (P.active (j / P.children) (j % P.children)) (decision P (j / P.children) (j % P.children))
  child_is j at = ap (child_at m) (sym at.place) ∙ done.children (j / P.children) (j % P.children) at.node at.child

  -- the values of the leaf at place j are its points'
  values_are : (j n : ℕ) → At P j → becomes_leaf P (j / P.children) (j % P.children) ≡ true → get_or m.places j 0 ≡ n
      → leaf_values P.leaf_points m.store n ≡ tabulate P.leaf_points (P.point_value (j / P.children) (j % P.children))
  unfolding leaf_values
  values_are j n at is place =
      tabulate_cong P.leaf_points _ _ (λ p below.
      ap (λ k. get_or m.store (k * P.leaf_points + p) plus_zero) (sym place ∙ ap (λ k. get_or m.places k 0) (sym at.place))
      ∙ done.points (j / P.children) (j % P.children) p at.node at.child is below)

  -- the line of a child that holds these elements
  abbrev child_line : (nan v c : ℕ) → Child → List ℕ
  child_line nan v c ch = kind_line P.leaf_points nan v c ch.kind ch.number ch.place m.store

  line_is : (nan j : ℕ) → j < P.nodes * P.children → line_at P.children P.leaf_points nan m j ≡ plan_line_at P nan j
  unfolding line_at plan_line_at kind_line plan_line
  line_is nan j below =
      let at = at_place P j below in
      let v = j / P.children in
      let c = j % P.children in
      by nan j at (P.active v c) (decision P v c) refl refl (child_is j at)
    where
      by :
          (nan j : ℕ) → At P j → (b : Bool) (d : Verdict) → P.active (j / P.children) (j % P.children) ≡ b
          → decision P (j / P.children) (j % P.children) ≡ d
          → child_at m j ≡ finished_child (leaves_before P (j / P.children) (j % P.children)) b d
          → kind_line P.leaf_points nan (j / P.children) (j % P.children) (child_at m j).kind (child_at m j).number (child_at m j).place m.store
          ≡ plan_line P nan (j / P.children) (j % P.children) b d
      by nan j at false d active dec is = ap (child_line nan (j / P.children) (j % P.children)) is
      by nan j at true (Constant k x) active dec is =
          let kinds = constants (j / P.children) (j % P.children) k x dec in
          ap (child_line nan (j / P.children) (j % P.children)) is
          ∙ constant_line_lem P.leaf_points (j / P.children) (j % P.children) (kind_number k) nan x 0 m.store kinds.0 kinds.1
      by nan j at true Leaf active dec is =
          let place : get_or m.places j 0 ≡ leaves_before P (j / P.children) (j % P.children) = ap (λ ch. ch.place) is in
          let leaf_is : becomes_leaf P (j / P.children) (j % P.children) ≡ true = rw (active, dec) in
          ap (child_line nan (j / P.children) (j % P.children)) is
          ∙ ap (leaf_line nan (j / P.children) (j % P.children)) (values_are j (leaves_before P (j / P.children) (j % P.children)) at leaf_is place)

  -- THE LISTING OF A FINISHED JOB IS ITS PLAN'S
  pub listing_plan : (nan : ℕ) → listing P.nodes P.children P.leaf_points nan (counts_with P (leaves_all P) (total P)) m ≡ plan_listing P nan
  unfolding listing plan_listing
  listing_plan nan =
      ap (λ t. done_line (counts_with P (leaves_all P) (total P)) ++ t)
      (lines_cong (line_at P.children P.leaf_points nan m) (plan_line_at P nan) (P.nodes * P.children) 0 (λ j below. line_is nan j (omega arith)))

  module _ (enough : leaves_all P * P.leaf_points ≤ length m.store) where
    -- whether a child that holds these elements is placed
    abbrev child_placed : Child → Bool
    child_placed ch = placed P.leaf_points (length m.store) ch.kind ch.place

    child_placed_lem : (j : ℕ) → j < P.nodes * P.children → placed P.leaf_points (length m.store) (get_or m.kinds j 0) (get_or m.places j 0) ≡ true
    unfolding placed
    child_placed_lem j below =
        let at = at_place P j below in
        let v = j / P.children in
        let c = j % P.children in
        by j at (P.active v c) (decision P v c) refl refl (child_is j at)
      where
        by :
            (j : ℕ) → At P j → (b : Bool) (d : Verdict) → P.active (j / P.children) (j % P.children) ≡ b
            → decision P (j / P.children) (j % P.children) ≡ d
            → child_at m j ≡ finished_child (leaves_before P (j / P.children) (j % P.children)) b d
            → placed P.leaf_points (length m.store) (child_at m j).kind (child_at m j).place ≡ true
        by j at false d active dec is = ap child_placed is
        by j at true (Constant k x) active dec is =
            let other : eqb (kind_number k) 2 ≡ false = ne_eqb (kind_number k) 2 (constants (j / P.children) (j % P.children) k x dec).1 in
            ap child_placed is ∙ rw other
        by j at true Leaf active dec is =
            let leaf_is : becomes_leaf P (j / P.children) (j % P.children) ≡ true = rw (active, dec) in
            let n = leaves_before P (j / P.children) (j % P.children) in
            let before : n < leaves_all P = before_below P (becomes_leaf P) (j / P.children) (j % P.children) at.node at.child leaf_is in
            let more : n + 1 ≤ leaves_all P = omega arith in
            ap child_placed is ∙ le-leb ((n + 1) * P.leaf_points) (length m.store) (omega (arith, mul-le-mul_right P.leaf_points more))

    -- its leaves have their stretches inside the store
    pub all_placed_lem : all_placed P.leaf_points (length m.store) m.kinds m.places (P.nodes * P.children) 0 ≡ true
    all_placed_lem =
        placed_all P.leaf_points (length m.store) m.kinds m.places (P.nodes * P.children) 0 (λ j below. child_placed_lem j (omega arith))

-- ---- the record of a finished job

-- WHAT IS WRITTEN OF A FINISHED JOB IS ITS PLAN'S LISTING
pub written_plan :
    (j : Job) (nan : ℕ) (m : Memory) (out : List ℕ) → impossible sparse j m ≡ false
    → at_end j.cursor ≡ true
    → j.counts ≡ counts_with (plan_of j.input) (leaves_all (plan_of j.input)) (total (plan_of j.input))
    → Finished (plan_of j.input) m → leaves_all (plan_of j.input) * (plan_of j.input).leaf_points ≤ length m.store
    → written (Some j) nan m out ≡ put_listing (plan_listing (plan_of j.input) nan) out
unfolding printable record_listing
written_plan j nan m out judged end counts done enough =
    let P = plan_of j.input in
    let constants = plan_constants j.input in
    let placed = all_placed_lem P m constants done enough in
    let whole : record_listing j nan m ≡ plan_listing P nan =
    ap (λ k. listing P.nodes P.children P.leaf_points nan k m) counts ∙ listing_plan P m constants done nan in
    judged_possible j nan m out judged ∙ listed_whole j nan m out (rw (end, placed)) ∙ ap (λ bs. put_listing bs out) whole
