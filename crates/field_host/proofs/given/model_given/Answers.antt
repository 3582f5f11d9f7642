-- A part more.
use Rattle.std.proofs.Common.{◌≡◌, sym, ◌∙◌, replicate, arith}
use lib.ListN.{length-replicate}
use Rattle.lists.proofs.Filling.{filled_none, front_store, filled_done, filled_all}
use Rattle.model.specs.Flat.{flat_of}
use Rattle.field_host.specs.Given.{component_given}
use Rattle.field_host.proofs.given.model_given.Invariants.{none}
use Rattle.field_host.proofs.given.model_given.Goals as goal

pub loop-p-init : goal.loop-p-init
loop-p-init c = sym (filled_none _ _ _)

pub loop-p-preserved : goal.loop-p-preserved
loop-p-preserved c =
    front_store c.loop-p.p (component_given (flat_of c.args.parts.now c.args.reals.now)) (replicate 64 none) c.loop-p.invariant c.component_given.ensures

pub returns : goal.returns
returns c =
    let l = flat_of c.args.parts.now c.args.reals.now in
    let last : c.loop-p.p ≡ 64 = omega arith in
    let whole = filled_done 0 (component_given l) (replicate 64 none) c.loop-p.invariant last
    ∙ filled_all 64 (component_given l) (replicate 64 none) none (length-replicate 64 none) in
    λ i. record { parts = whole i; count = c.args.count }
