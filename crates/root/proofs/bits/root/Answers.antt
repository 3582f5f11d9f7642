-- `root` meets its contract: the float is what its bits stand for.
use mathlib.Core.Path.{sym, ap, ◌∙◌, subst}
use lib.Dec.{T}
use lib.Ieee.{binary64}
use lib.Ieee.Bits.{of_bits-to_bits}
use Rattle.root.specs.Root.{square_root}
use Rattle.root.proofs.BitsRoots.{zero_by_zero, root_of_nan}
use Rattle.root.proofs.Patterns.{only_nan, number_self}
use Rattle.root.proofs.bits.root.Goals as goal

pub returns-then-x : goal.returns-then-x
returns-then-x c = zero_by_zero ∙ sym (ap square_root (only_nan _ c.if-x.true) ∙ root_of_nan)

pub float_to_bits-pattern : goal.float_to_bits-pattern
float_to_bits-pattern c = number_self _ c.if-x.false

pub other_root-requires-clause-reads : goal.other_root-requires-clause-reads
other_root-requires-clause-reads c = sym (of_bits-to_bits binary64 _ (subst T (sym c.well_formed.0.1) tt))

pub returns-in-4503599627370496-to-9218868437227405311 :
    goal.returns-in-4503599627370496-to-9218868437227405311
returns-in-4503599627370496-to-9218868437227405311 c =
    c.normal_root.ensures ∙ ap square_root (of_bits-to_bits binary64 _ (subst T (sym c.well_formed.0.1) tt))
