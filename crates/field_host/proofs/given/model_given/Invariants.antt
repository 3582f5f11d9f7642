-- The places passed so far hold their parts.
use Rattle.std.proofs.Common.{◌≡◌, replicate}
use Rattle.lists.specs.Filled.{filled}
use Rattle.float.specs.Zero.{plus_zero}
use Rattle.model.specs.declared.ModelComponent.{ModelComponent}
use Rattle.model.specs.declared.Part.TheVariants.{Constant}
use Rattle.model.specs.Flat.{flat_of}
use Rattle.field_host.specs.Given.{component_given}
use Rattle.field_host.proofs.given.model_given.Given as goal

-- what stands where no part is written yet
abbrev pub none : ModelComponent
none = record { part = Constant plus_zero }

abbrev pub invariant-loop-p : goal.invariant-loop-p
invariant-loop-p l = l.all ≡ filled 0 l.p (component_given (flat_of l.parts l.reals)) (replicate 64 none)
