-- `given::input_given` meets its contract.
use lib.ListN.{get_or}
use Rattle.model.specs.Part.{past}
use Rattle.field_host.specs.Given.{grid_given, input_given}
use Rattle.field_host.proofs.given.input_given.Goals as goal

pub returns : goal.returns
unfolding input_given
returns c =
    let a = c.args in
    let s = a.settings.now in
    λ i. record {
      grid = grid_given (c.box_of-bounds.ensures i) (get_or s 6 past) a.inner a.leaf;
      band = record { min = get_or s 7 past; max = get_or s 8 past };
      model = c.model_given-model.ensures i;
    }
