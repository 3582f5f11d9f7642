-- The front is +0 by the fill, and the rest was.
use Rattle.std.proofs.Common.{◌≡◌, length, take, replicate, rules}
use Rattle.float.specs.Zero.{plus_zero}
use Rattle.engine.proofs.Stretch.{put_cleared}
use Rattle.engine.proofs.nodes.clear_corners.Goals as goal

pub returns : goal.returns
returns c =
    let filled : c.fill.new.self ≡ replicate (length (take c.args.used c.args.corners.now)) plus_zero = search rules in
    put_cleared c.args.used plus_zero c.args.corners.now c.requires.within c.requires.zero filled
