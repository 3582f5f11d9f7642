-- The places so far have their parts, and each part took five numbers.
use Rattle.std.proofs.Common.{◌≡◌, ◌*◌, take, drop}
use Rattle.cases.specs.Parts.{parts_at}
use Rattle.cases.proofs.numbers.Numbers.parts.Given as goal

abbrev pub invariant-loop-component : goal.invariant-loop-component
invariant-loop-component l = record {
  filled : take l.component-index l.component-items ≡ parts_at l.initial.self.left.now l.component-index;
  left : l.self.left.now ≡ drop (5 * l.component-index) l.initial.self.left.now;
}
