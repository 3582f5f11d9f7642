-- `parts` fills one place after the other.
use Rattle.std.proofs.Common.{refl, rules}
use Rattle.cases.specs.Parts.{parts_at}
use Rattle.cases.proofs.Models.{five_more, one_more}
use Rattle.cases.proofs.numbers.Numbers.parts.Goals as goal

pub loop-component-init : goal.loop-component-init
unfolding parts_at
loop-component-init c = record { filled = refl; left = refl }

pub loop-component-preserved : goal.loop-component-preserved
loop-component-preserved c = record {
  filled = rw (c.part-component.ensures.value, c.loop-component.invariant.left) (one_more _ _ _ (search rules) c.loop-component.invariant.filled);
  left = five_more c.args.self.now.left.now _ _ c.loop-component.component-index c.part-component.ensures.rest c.loop-component.invariant.left;
}
