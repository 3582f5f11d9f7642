-- `write` meets its contract, by whether the text fits.
use Rattle.std.proofs.Common.{arith}
use Rattle.listing.proofs.ListingLaws.{refused_answer, refused_bytes, accepted_answer, accepted_bytes}
use Rattle.listing.proofs.text.write.Goals as goal

pub returns-then-length-out-clause-answer : goal.returns-then-length-out-clause-answer
returns-then-length-out-clause-answer g c = refused_answer _ _ (omega (arith, c.if-length-out.true, c.length_of-length.ensures))

pub returns-then-length-out-clause-out : goal.returns-then-length-out-clause-out
returns-then-length-out-clause-out g c = refused_bytes _ _ (omega (arith, c.if-length-out.true, c.length_of-length.ensures))

pub returns-clause-answer : goal.returns-clause-answer
returns-clause-answer g c = accepted_answer _ _ c.length_of-length.ensures (omega (arith, c.if-length-out.false, c.length_of-length.ensures))

pub returns-clause-out : goal.returns-clause-out
returns-clause-out g c =
    accepted_bytes _ _ (omega (arith, c.if-length-out.false, c.length_of-length.ensures))
    c.length_of-length.ensures c.put_front.ensures c.zero_rest.ensures
