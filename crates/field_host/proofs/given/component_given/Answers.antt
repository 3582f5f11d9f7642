-- `given::component_given` meets its contract.
use Rattle.field_host.specs.Given.{part_given}
use Rattle.field_host.proofs.given.component_given.Goals as goal

pub returns : goal.returns
unfolding part_given
returns c = λ i. record { part = c.part_coded-part.ensures i }
