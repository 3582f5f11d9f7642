-- `list_whole` meets its contract: the listing fits.
use Rattle.std.proofs.Common.{sym, ◌∙◌, arith}
use Rattle.listing.proofs.ListedLaws.{whole, ok_same, listed_fits}
use Rattle.listing.proofs.list.list_whole.Goals as goal

pub unwrap-requires : goal.unwrap-requires
unwrap-requires c = let is = c.list_job.ensures.answer ∙ whole c.args.text.now _ c.requires in rw is

pub returns-clause-answer : goal.returns-clause-answer
returns-clause-answer c =
    let is = sym c.unwrap.ensures ∙ c.list_job.ensures.answer ∙ whole c.args.text.now _ c.requires in
    (ok_same is, omega (arith, ok_same is, listed_fits c.args.text.now))
