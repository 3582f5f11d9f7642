-- What is left of a schedule, made with a budget, by its next event.
use Prim.Native.Nat.{ℕ, zero, suc, ◌+◌, ◌*◌, ◌-◌, ◌≤◌}
use mathlib.Core.Path.{◌≡◌, refl, ap, ap₂, ◌∙◌}
use mathlib.Core.Bool.{Bool, true, false, cond}
use mathlib.Core.List.{List, [], ◌∷◌}
use native.Mathlib.Omega.{arith}
use lib.ListN.{set, length, length-set}
use lib.Ieee.{Float}
use Rattle.schedule.specs.Schedule.{Event, Work, Site, corner, point, evaluate, work}
use Rattle.schedule.specs.Plan.{Plan}
use Rattle.schedule.specs.declared.Cursor.TheVariants.{End, Corner, Point}
use Rattle.schedule.specs.Resume.{at_site, cursor_of, events_from, reading}
use Rattle.schedule.specs.Split.{split, evaluations}
use Rattle.schedule.specs.Memory.{State, state, apply, apply_all}
use Rattle.lists.specs.Sums.{sum_from, bit}
use Rattle.schedule.proofs.Next.{corner_evaluate, corner_skip, point_evaluate}
use Rattle.engine.specs.Inner.Runs.{Run, run_of}
use Rattle.rows.specs.Inner.CornerRun.{needed_from, evaluated_from}
use Rattle.lists.specs.Filled.{filled}

module _ (P : Plan) where
  -- work is made at once
  pub run_work : (b : ℕ) (w : Work) (es : List Event) (s : State) → run_of P b (work w ∷ es) s ≡ run_of P b es (apply P (work w) s)
  unfolding run_of split apply_all evaluations cursor_of
  run_work b w es s = refl

  -- an evaluation takes one of the budget
  pub run_evaluate : (b : ℕ) (t : Site) (x : Float) (es : List Event) (s : State)
      → run_of P (suc b) (evaluate t x ∷ es) s ≡ run_of P b es (apply P (evaluate t x) s)
  unfolding run_of split apply_all evaluations cursor_of
  run_evaluate b t x es s =
      let one : suc b - suc (evaluations (split b es).made) ≡ b - evaluations (split b es).made = omega arith in
      λ i. record {
        state = apply_all P (split b es).made (apply P (evaluate t x) s);
        cursor = cursor_of (split b es).rest;
        left = one i;
      }

  -- without a budget it stops before an evaluation
  pub run_stop : (t : Site) (x : Float) (es : List Event) (s : State)
      → run_of P 0 (evaluate t x ∷ es) s ≡ record { state = s; cursor = at_site t; left = 0 }
  unfolding run_of split apply_all evaluations cursor_of
  run_stop t x es s = refl

  -- nothing is left
  pub run_end : (b : ℕ) (s : State) → run_of P b [] s ≡ record { state = s; cursor = End; left = b }
  unfolding run_of split apply_all evaluations cursor_of
  run_end b s =
      let all : b - 0 ≡ b = omega arith in
      λ i. record { state = s; cursor = End; left = all i }

  -- a state with other corners, and with another store
  abbrev pub with_corners : State → List Float → State
  with_corners s l = let m = s.memory in state m.kinds m.numbers m.places m.store l s.leaves

  abbrev pub with_store : State → List Float → State
  with_store s l = let m = s.memory in state m.kinds m.numbers m.places l m.corners s.leaves

  module _ (v : ℕ) where
    -- what is left from corner i on, in a state with corners l
    abbrev pub corners_run : ℕ → ℕ → State → List Float → Run
    corners_run b i s l = run_of P b (events_from P (Corner v i) (reading (with_corners s l))) (with_corners s l)

    -- r corners from i on, as far as they are needed
    pub run_corners : (r i b : ℕ) (s : State) (l : List Float) → i + r ≤ P.corners → P.corners ≤ length l → needed_from (P.needed v) r i ≤ b
        → corners_run b i s l
        ≡ corners_run (b - needed_from (P.needed v) r i) (i + r) s (evaluated_from (P.needed v) (P.corner_value v) r i l)
    unfolding sum_from evaluated_from apply
    run_corners zero i b s l within long enough =
        let all : b ≡ b - 0 = omega arith in
        let here : i ≡ i + 0 = omega arith in
        ap₂ (λ b i. corners_run b i s l) all here
    run_corners (suc r) i b s l within long enough = one (P.needed v i) refl enough (λ b l. run_corners r (suc i) b s l (omega arith))
      where
        one : (n : Bool) → P.needed v i ≡ n → bit n + needed_from (P.needed v) r (suc i) ≤ b
            → ((b : ℕ) (l : List Float) → P.corners ≤ length l → needed_from (P.needed v) r (suc i) ≤ b
            → corners_run b (suc i) s l
            ≡ corners_run (b - needed_from (P.needed v) r (suc i)) (suc i + r) s (evaluated_from (P.needed v) (P.corner_value v) r (suc i) l))
            → corners_run b i s l
            ≡ corners_run (b - (bit n + needed_from (P.needed v) r (suc i))) (i + suc r) s
            (evaluated_from (P.needed v) (P.corner_value v) r (suc i) (cond n (set l i (P.corner_value v i)) l))
        one true e h later =
            let more : b ≡ suc (b - 1) = omega arith in
            let place : suc i + r ≡ i + suc r = omega arith in
            let spent : b - 1 - needed_from (P.needed v) r (suc i) ≡ b - (1 + needed_from (P.needed v) r (suc i)) = omega arith in
            ap (λ es. run_of P b es (with_corners s l)) (corner_evaluate P v i (omega arith) e (with_corners s l) (omega arith))
            ∙ ap (λ b. run_of P b (evaluate (corner v i) (P.corner_value v i)
            ∷ events_from P (Corner v (suc i)) (reading (with_corners s (set l i (P.corner_value v i))))) (with_corners s l)) more
            ∙ run_evaluate (b - 1) (corner v i) (P.corner_value v i) _ (with_corners s l)
            ∙ later (b - 1) (set l i (P.corner_value v i)) (rw length-set long) (omega arith)
            ∙ ap₂ (λ b i'. corners_run b i' s (evaluated_from (P.needed v) (P.corner_value v) r (suc i) (set l i (P.corner_value v i)))) spent place
        one false e h later =
            let place : suc i + r ≡ i + suc r = omega arith in
            let none : b - needed_from (P.needed v) r (suc i) ≡ b - (0 + needed_from (P.needed v) r (suc i)) = omega arith in
            ap (λ es. run_of P b es (with_corners s l)) (corner_skip P v i (omega arith) e (reading (with_corners s l)))
            ∙ later b l long (omega arith)
            ∙ ap₂ (λ b i'. corners_run b i' s (evaluated_from (P.needed v) (P.corner_value v) r (suc i) l)) none place

    module _ (c : ℕ) (read : ℕ → Float) where
      -- what is left from point p on, in a state with a store l
      abbrev pub points_run : ℕ → ℕ → State → List Float → Run
      points_run b p s l = run_of P b (events_from P (Point v c p) read) (with_store s l)

      -- where the last leaf's stretch of the store begins
      abbrev pub stretch : State → ℕ
      stretch s = (s.leaves - 1) * P.leaf_points

      -- r points from p on
      pub run_points : (r p b : ℕ) (s : State) (l : List Float) → p + r ≤ P.leaf_points → r ≤ b
          → points_run b p s l
          ≡ points_run (b - r) (p + r) s (filled (stretch s + p) r (λ q. P.point_value v c (q - stretch s)) l)
      unfolding filled apply
      run_points zero p b s l within enough =
          let all : b ≡ b - 0 = omega arith in
          let here : p ≡ p + 0 = omega arith in
          ap₂ (λ b p. points_run b p s l) all here
      run_points (suc r) p b s l within enough =
          let f : ℕ → Float = λ q. P.point_value v c (q - stretch s) in
          let before : List Float = filled (stretch s + p) r f l in
          let more : b - r ≡ suc (b - suc r) = omega arith in
          let next : suc (p + r) ≡ p + suc r = omega arith in
          let place : stretch s + (p + r) ≡ stretch s + p + r = omega arith in
          let which : p + r ≡ stretch s + p + r - stretch s = omega arith in
          run_points r p b s l (omega arith) (omega arith)
          ∙ ap (λ es. run_of P (b - r) es (with_store s before)) (point_evaluate P v c (p + r) (omega arith) read)
          ∙ ap (λ b. run_of P b (evaluate (point v c (p + r)) (P.point_value v c (p + r))
          ∷ events_from P (Point v c (suc (p + r))) read) (with_store s before)) more
          ∙ run_evaluate (b - suc r) (point v c (p + r)) (P.point_value v c (p + r)) _ (with_store s before)
          ∙ ap₂ (λ q x. points_run (b - suc r) (suc (p + r)) s (set before q x)) place (ap (P.point_value v c) which)
          ∙ ap (λ p'. points_run (b - suc r) p' s (set before (stretch s + p + r) (f (stretch s + p + r)))) next
