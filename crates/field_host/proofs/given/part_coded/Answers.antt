-- `given::part_coded` meets its contract: a code above 7 is no part.
use mathlib.Core.Path.{refl}
use native.Mathlib.Omega.{arith}
use borrow.Author.Tests.{lt-ltb, le-ltb}
use Rattle.field_host.specs.Given.{part_coded}
use Rattle.field_host.proofs.given.part_coded.Goals as goal

pub returns-then-code-gt7 : goal.returns-then-code-gt7
unfolding part_coded
returns-then-code-gt7 c =
    rw (lt-ltb 7 c.args.code (omega (arith, c.if-code-gt7.true))) refl

pub returns : goal.returns
unfolding part_coded
returns c =
    rw (le-ltb 7 c.args.code (omega (arith, c.if-code-gt7.false))) c.part_from.ensures
