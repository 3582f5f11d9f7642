-- `model` reads the parts that are given into the first places.
use Rattle.std.proofs.Common.{◌∙◌, rules}
use Rattle.cases.proofs.Models.{whole}
use Rattle.cases.proofs.numbers.Numbers.model.Goals as goal

pub returns-clause-value : goal.returns-clause-value
returns-clause-value c = whole _ _ _ _ _ c.min.ensures (c.parts.ensures.values ∙ (search rules))
