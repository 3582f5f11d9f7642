-- `all_placed` meets its contract.
use Rattle.std.proofs.Common.{sym, ◌∙◌}
use Rattle.listing.proofs.ListingLaws.{placed_next, placed_fails, placed_done}
use Rattle.listing.proofs.writing.all_placed.Goals as goal

pub returns-then-not-is_placed : goal.returns-then-not-is_placed
returns-then-not-is_placed c =
    let fails = sym c.is_placed.ensures ∙ c.if-not-is_placed.true in
    sym (placed_fails _ _ _ _ c.args.total c.loop-j.j c.loop-j-test.true fails) ∙ c.loop-j.invariant

pub loop-j-preserved : goal.loop-j-preserved
loop-j-preserved c =
    let holds = sym c.is_placed.ensures ∙ c.if-not-is_placed.false in
    sym (placed_next _ _ _ _ c.args.total c.loop-j.j c.loop-j-test.true holds) ∙ c.loop-j.invariant

pub returns : goal.returns
returns c = sym (placed_done _ _ _ _ c.args.total c.loop-j.j c.loop-j-test.false) ∙ c.loop-j.invariant
