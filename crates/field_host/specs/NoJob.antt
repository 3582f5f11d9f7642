-- The job that arrays read as which no record has: every number is 0. Cause 1 refuses its input (rule R15).
use Rattle.std.specs.Prelude.{replicate}
use Rattle.float.specs.Zero.{plus_zero}
use Rattle.geometry.specs.Values.{vec3, box}
use Rattle.model.specs.declared.ImplicitModel.{ImplicitModel}
use Rattle.model.specs.declared.Part.TheVariants.{Constant}
use Rattle.input.specs.declared.Input.{Input}
use Rattle.schedule.specs.declared.Cursor.TheVariants.{End}
use Rattle.schedule.specs.declared.Job.{Job}

-- a model without parts: 64 constants +0, none of which counts
abbrev pub no_model : ImplicitModel
no_model = record { parts = replicate 64 (record { part = Constant plus_zero }); count = 0 }

-- an input with every number 0
abbrev pub no_input : Input
no_input =
    let zero = vec3 plus_zero plus_zero plus_zero in
    record { grid = record { bounds = box zero zero; cell = plus_zero; inner = 0; leaf = 0 }; band = record { min = plus_zero; max = plus_zero }; model = no_model }

-- a job with every number 0
abbrev pub no_job : Job
no_job =
    record {
      input = no_input;
      lengths = record { kinds = 0; numbers = 0; places = 0; store = 0; corners = 0 };
      counts = record { grid = record { nodes = 0; active = 0 }; leaves = 0; sampled = 0; evaluations = 0 };
      cursor = End;
    }
