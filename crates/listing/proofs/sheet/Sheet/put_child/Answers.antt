-- `put_child` meets its contract, by the child's kind.
use Rattle.std.proofs.Common.{sym, ◌∙◌, length, subst}
use Rattle.grid.proofs.KindNumbers.{empty_number, leaf_number, active_number}
use Rattle.listing.proofs.SheetLaws.{empty_here, leaf_here, constant_here}
use Rattle.listing.proofs.sheet.Sheet.put_child.Goals as goal

pub returns-in-Empty : goal.returns-in-Empty
returns-in-Empty g c =
    let is = empty_here c.args.self.now c.args.j c.requires.inside (empty_number _ (sym c.from.ensures ∙ c.in-Empty.is)) in
    subst (λ xs. g.S.Sink.puts c.args.sink.now xs c.args.sink.now) (sym is) (g.S.Sink.laws.none c.args.sink.now)

pub put_leaf-requires : goal.put_leaf-requires
put_leaf-requires g c =
    let is = leaf_here c.args.self.now c.args.j c.requires.inside (leaf_number _ (sym c.from.ensures ∙ c.in-Leaf.is)) _ c.leaf.ensures in
    subst (λ xs. g.S.Sink.room c.args.sink.now (length xs)) is c.requires.room

pub put_constant-requires : goal.put_constant-requires
put_constant-requires g c =
    let other = active_number _ (sym c.from.ensures ∙ c.in-Active.is) in
    let is = constant_here c.args.self.now c.args.j c.requires.inside other.0 other.1 in
    subst (λ xs. g.S.Sink.room c.args.sink.now (length xs)) is c.requires.room

pub returns-in-Leaf : goal.returns-in-Leaf
returns-in-Leaf g c =
    let is = leaf_here c.args.self.now c.args.j c.requires.inside (leaf_number _ (sym c.from.ensures ∙ c.in-Leaf.is)) _ c.leaf.ensures in
    subst (λ xs. g.S.Sink.puts c.args.sink.now xs c.put_leaf.new.sink) (sym is) c.put_leaf.ensures

pub returns-in-Active : goal.returns-in-Active
returns-in-Active g c =
    let other = active_number _ (sym c.from.ensures ∙ c.in-Active.is) in
    let is = constant_here c.args.self.now c.args.j c.requires.inside other.0 other.1 in
    subst (λ xs. g.S.Sink.puts c.args.sink.now xs c.put_constant.new.sink) (sym is) c.put_constant.ensures
