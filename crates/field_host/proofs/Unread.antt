-- What is handed in is judged: a part's code that does not exist is cause 4, a first word of 0 is no job, and words
-- with a job that no record has are refused by 8.
use Prim.Native.Nat.{ℕ, ◌<◌}
use mathlib.Core.Path.{◌≡◌, refl, sym, ap, ◌∙◌}
use mathlib.Core.Bool.{Bool, true, false, not, cond}
use Rattle.std.specs.Prelude.{Some, None}
use mathlib.Core.List.{map}
use native.Mathlib.Omega.{arith}
use lib.ListN.{get_or, get_or-map}
use borrow.Author.Tests.{lt-ltb, ltb-true, eq-eqb}
use Rattle.lists.specs.Tabulate.{tabulate}
use Rattle.lists.proofs.Tables.{get_d_tabulate}
use Rattle.float.specs.Zero.{plus_zero}
use Rattle.model.specs.declared.Part.TheVariants.{Constant}
use Rattle.model.specs.Part.{part_in, inputs_below}
use Rattle.model.specs.Model.{part_of, refused_by_four}
use Rattle.model.specs.Flat.{Flat}
use Rattle.model.proofs.InOrder.{ordered_at}
use Rattle.model.proofs.Accepted.{count_le, in_order}
use Rattle.grid.specs.Blocks.{is_block}
use Rattle.grid.specs.Limits.{refused_by_two}
use Rattle.schedule.specs.Memory.{Memory}
use Rattle.schedule.specs.Opened.{lengths_of}
use Rattle.schedule.specs.Calls.{steps}
use Rattle.schedule.specs.Possible.{impossible}
use Rattle.schedule.proofs.Possible.{possible}
use Rattle.plans.specs.Sparse.{sparse}
use Rattle.sparse_field.specs.Calls.{called}
use Rattle.sparse_field.proofs.Opening.{nothing}
use Rattle.sparse_field.proofs.CallLaws.{step_none, step_impossible}
use Rattle.field_host.specs.Given.{no_part, part_coded, part_given, component_given, model_given}
use Rattle.field_host.specs.NoJob.{no_job}
use Rattle.field_host.specs.Carried.{Carried, input_in, fits, flagged, job_given, decoded}
use Rattle.field_host.specs.Hosted.{left_by, hosted_by, hosted}

-- ---- a code that does not exist

-- where a model has such a code below its count, cause 4 refuses it
pub unknown_code : (l : Flat) (count p : ℕ) → p < count → 7 < get_or l.words p 0 → refused_by_four (model_given l count) ≡ true
unfolding inputs_below part_given part_coded
unknown_code l count p below code = by (refused_by_four (model_given l count)) refl
  where
    by : (b : Bool) → refused_by_four (model_given l count) ≡ b → refused_by_four (model_given l count) ≡ true
    by true e = e
    by false e =
        let few : p < 64 = omega (arith, count_le (model_given l count) e) in
        let all = tabulate 64 (component_given l) in
        let coded : part_given l p ≡ no_part = rw (lt-ltb _ _ code) refl in
        let none : part_of (map part_in all) p ≡ no_part =
        get_or-map part_in all p (record { part = Constant plus_zero }) ∙ ap part_in (get_d_tabulate 64 (component_given l) p _ few) ∙ coded in
        let placed = sym (ap (inputs_below p) none) ∙ ordered_at (map part_in all) p count below (in_order (model_given l count) e) in
        absurd (omega (arith, ltb-true 4294967295 p placed))

-- ---- a first word of 0

-- there is no job, whatever else the arrays hold
pub no_flag : (c : Carried) → get_or c.words 0 0 ≡ 0 → decoded c ≡ None
unfolding decoded
no_flag c none = ap (λ b. cond b (Some (cond (fits c.words) (job_given (input_in c) c.words) no_job)) None) (ap not (eq-eqb (get_or c.words 0 0) 0 none))

-- a step refuses them by 7, and changes nothing
pub no_job_refused : (c : Carried) (m : Memory) → get_or c.words 0 0 ≡ 0 → (budget : ℕ)
    → hosted (steps budget) c m ≡ record { number = 7; carried = c; memory = m }
unfolding hosted left_by
no_job_refused c m none budget =
    ap (λ r. hosted_by (called (steps budget) r m) c) (no_flag c none) ∙ ap (λ h. hosted_by h c) (step_none budget m)

-- ---- words that no record has

module _ (c : Carried) (m : Memory) (misfit : fits c.words ≡ false) (flag : flagged c.words ≡ true) where
  reads : decoded c ≡ Some no_job
  unfolding decoded
  reads =
      ap (λ b. cond b (Some (cond (fits c.words) (job_given (input_in c) c.words) no_job)) None) flag
      ∙ ap (λ b. Some (cond b (job_given (input_in c) c.words) no_job)) misfit

  -- such a record is impossible, as a block size of 0 is no block
  never : impossible sparse no_job m ≡ true
  unfolding refused_by_two is_block
  never = by (impossible sparse no_job m) refl
    where
      by : (b : Bool) → impossible sparse no_job m ≡ b → impossible sparse no_job m ≡ true
      by true e = e
      by false e =
          let block : true ≡ false = (nothing no_job.input (lengths_of m) (possible sparse no_job m e).accepted).two in
          e ∙ sym block

  -- a step refuses it by 8, and changes nothing
  pub unread_refused : (budget : ℕ) → hosted (steps budget) c m ≡ record { number = 8; carried = c; memory = m }
  unfolding hosted left_by
  unread_refused budget =
      ap (λ r. hosted_by (called (steps budget) r m) c) reads ∙ ap (λ h. hosted_by h c) (step_impossible budget no_job m never)
