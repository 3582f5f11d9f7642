-- The marks of all children, gathered, and the rest zeroed.
use Rattle.std.proofs.Common.{rules, ◌≡◌, ◌+◌, length, refl, ap, ◌∙◌, arith}
use lib.ListN.{length-replicate}
use Rattle.lists.proofs.Rest.{rest_lent}
use Rattle.grid.specs.Blocks.{cube}
use Rattle.grid.proofs.BlockLaws.{cube_le}
use Rattle.grid.proofs.ListedCorners.{no_marks, gathered_to, room, kept, counted, corners_once}
use Rattle.grid.proofs.needed.NodeKinds.list_needed.Goals as goal

pub mark-requires : goal.mark-requires
mark-requires c =
    no_marks _ _ c.args.list.now _ c.requires (search rules)

pub gather-count-requires : goal.gather-count-requires
gather-count-requires c =
    let n = c.args.self.now.n in
    let e : c.cube_of-corners.result ≡ cube (n + 1) = c.cube_of-corners.ensures in
    (omega (arith, c.mark.ensures.1.long), omega (arith, cube_le 65 (n + 1) (omega (arith, c.args.self.now.few))))

pub returns : goal.returns
returns c =
    let marks = c.mark.ensures in
    let gathered = gathered_to c.cube_of-corners.ensures c.gather-count.ensures in
    let zeroed = rest_lent _ 0 _ (room _ _ _ marks.1 _ _ gathered) refl (search rules) in
    let cleared = c.fill.ensures.after (λ y e. search rules) in (
      kept _ _ _ marks.1 _ _ _ gathered zeroed ∙ gathered.kept ∙ marks.0 ∙ ap length cleared ∙ length-replicate _ 0,
      counted _ _ _ marks.1 _ _ _ gathered zeroed,
      corners_once _ _ _ marks.1 _ _ _ gathered zeroed,
    )
