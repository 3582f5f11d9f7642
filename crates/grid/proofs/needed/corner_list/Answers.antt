-- A block's size is small, and the kinds are as many as the list asks for.
use Rattle.std.proofs.Common.{rules, sym, ◌∙◌, arith}
use Rattle.grid.proofs.BlockLaws.{block}
use Rattle.grid.proofs.needed.corner_list.Goals as goal

pub cube_of-requires : goal.cube_of-requires
cube_of-requires c = omega (arith, (block _ (sym c.is_block.ensures ∙ search rules)).most)

pub cube_of-requires-2 : goal.cube_of-requires-2
cube_of-requires-2 c = omega (arith, (block _ (sym c.is_block.ensures ∙ search rules)).most)

pub invariant_of-list_needed : goal.invariant_of-list_needed
invariant_of-list_needed c =
    let size = block c.args.inner (sym c.is_block.ensures ∙ search rules) in
    record { some = omega (arith, size.least); few = size.most; whole = c.if-kinds-cube_of.false ∙ c.cube_of.ensures }
