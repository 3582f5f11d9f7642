-- `last_nan` meets its contract.
use Rattle.std.proofs.Common.{◌≡◌, refl, ◌∙◌, arith, length, length-set}
use Rattle.std.proofs.lemmas.List.{get_or-map}
use Rattle.model.specs.Part.{part_in}
use Rattle.job_text.specs.NanBits.{nans_to}
use Rattle.job_text.proofs.NanLaws.{nans_turn, nans_done}
use Rattle.job_text.proofs.nan.last_nan.Goals as goal

pub loop-p-init : goal.loop-p-init
unfolding nans_to
loop-p-init c = record { whole = refl; size = refl }

pub loop-p-preserved : goal.loop-p-preserved
loop-p-preserved c =
    let loop = c.loop-p in
    let part = get_or-map part_in c.args.parts.now loop.p _ _ (omega arith) in record {
      whole = nans_turn _ _ loop.nans loop.p _ _ (omega arith) loop.invariant.whole c.nan_of.ensures part;
      size = length-set loop.nans loop.p c.nan_of.result ∙ loop.invariant.size;
    }

pub returns : goal.returns
returns c =
    let loop = c.loop-p in
    let all : loop.p ≡ length c.args.parts.now = omega arith in
    nans_done _ _ loop.nans _ c.requires.some (omega arith) (rw all at loop.invariant.whole)
