-- Open and drop do not look at the record that they find: in the arrays and in the memory they leave the same from any.
use Rattle.std.specs.Prelude.{Ok, Err, Option, None}
use mathlib.Core.Path.{◌≡◌, refl}
use Rattle.schedule.specs.Memory.{Memory}
use Rattle.schedule.specs.Opened.{lengths_of}
use Rattle.schedule.specs.Calls.{Answer, opens, drops}
use Rattle.schedule.specs.Engine.{engine_call, engine_open}
use Rattle.input.specs.declared.Input.{Input}
use Rattle.schedule.specs.declared.Job.{Job}
use Rattle.plans.specs.Sparse.{sparse}
use Rattle.sparse_field.specs.Calls.{called}
use Rattle.field_host.specs.Carried.{Carried, decoded}
use Rattle.field_host.specs.Hosted.{Hosted, left_by, hosted_by, hosted}

module _ (old : Carried) (m : Memory) where
  pub open_from_none : (i : Input) → hosted_by (called (opens i) None m) old ≡ hosted (opens i) old m
  unfolding hosted engine_call engine_open left_by
  open_from_none i = by (sparse.answer (lengths_of m) i)
    where
      from : Option Job → Answer → Hosted
      from r a = hosted_by (engine_open sparse i (record { job = r; memory = m }) a) old

      by : (a : Answer) → from None a ≡ from (decoded old) a
      by (Ok u) = refl
      by (Err cause) = refl

  pub drop_from_none : hosted_by (called drops None m) old ≡ hosted drops old m
  unfolding hosted engine_call
  drop_from_none = refl
