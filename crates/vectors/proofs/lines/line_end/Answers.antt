-- `line_end` meets its contract.
use Rattle.std.proofs.Common.{◌-◌, length, drop, sym, ap, ◌∙◌, arith, length-drop}
use Rattle.std.specs.Prelude.{position}
use Rattle.std.proofs.lemmas.List.{take_all}
use Rattle.vectors.proofs.Ends.{is_end, ends_at, ends_last}
use Rattle.vectors.proofs.lines.line_end.Goals as goal

pub returns-in-Some : goal.returns-in-Some
returns-in-Some c =
    let s = c.args.s.now in
    let rest = drop c.args.at s in
    let whole = take_all (length s - c.args.at) rest (omega (arith, length-drop c.args.at s)) in
    ends_at s c.args.at c.requires c.in-Some.k (ap (position is_end) (sym whole) ∙ sym c.first_end.ensures ∙ c.in-Some.is)

pub returns-in-None : goal.returns-in-None
returns-in-None c =
    let s = c.args.s.now in
    let rest = drop c.args.at s in
    let whole = take_all (length s - c.args.at) rest (omega (arith, length-drop c.args.at s)) in
    ends_last s c.args.at c.requires (ap (position is_end) (sym whole) ∙ sym c.first_end.ensures ∙ c.in-None.is)
