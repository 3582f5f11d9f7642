-- One float more.
use Rattle.std.proofs.Common.{sym, ◌∙◌, refl, get_or, arith}
use Rattle.lists.proofs.Filling.{filled_none, front_store, filled_done, filled_copy}
use Rattle.model.specs.Part.{past}
use Rattle.model.proofs.copies.copy_values.Goals as goal

pub loop-i-init : goal.loop-i-init
loop-i-init c = sym (filled_none _ _ _)

pub loop-i-preserved : goal.loop-i-preserved
loop-i-preserved c = front_store c.loop-i.i (λ q. get_or c.args.from.now q past) c.args.to.now c.loop-i.invariant refl

pub returns : goal.returns
returns c = filled_done _ _ _ c.loop-i.invariant (omega arith) ∙ filled_copy c.args.from.now c.args.to.now past (omega arith)
