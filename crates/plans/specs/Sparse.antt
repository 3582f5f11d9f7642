-- What the schedule asks of the inputs of sparse fields.
use Rattle.input.specs.Causes.{refusal_of}
use Rattle.schedule.specs.Inputs.{Inputs}
use Rattle.plans.specs.Plan.{plan_of}

-- the causes of open, and the plan of each input (rule C53)
abbrev pub sparse : Inputs
sparse = record { answer = λ l i. refusal_of i l; plan = plan_of }
